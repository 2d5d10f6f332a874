use Rattle.sqlite.specs.Held.{state}
use Rattle.dh_records.specs.Lists.{is_held}
use Rattle.dh_records.specs.Codings as coding
use Rattle.dh_tables.proofs.Asking.{asked_for}
use Rattle.dh_tables.proofs.Statements.{held_asked}
use Rattle.dh_tables.proofs.tables.Tables.held.Goals as goal

pub has_record-requires : goal.has_record-requires
has_record-requires g c = record { query = (coding.held.encode, rw (c.params-to_sql.ensures, c.params-to_sql-2.ensures, c.params-to_sql-3.ensures, c.as_str.ensures.text, c.as_str-2.ensures.text, c.as_str-3.ensures.text) (asked_for (held_asked (state g.S.Store c.args.self.now) c.args.host.now c.args.pass.now c.args.slug.now))) }

pub returns : goal.returns
returns g c = c.has_record.ensures coding.held.encode (λ l. l.held) (is_held c.args.host.now c.args.pass.now c.args.slug.now) (rw (c.params-to_sql.ensures, c.params-to_sql-2.ensures, c.params-to_sql-3.ensures, c.as_str.ensures.text, c.as_str-2.ensures.text, c.as_str-3.ensures.text) (held_asked (state g.S.Store c.args.self.now) c.args.host.now c.args.pass.now c.args.slug.now))
