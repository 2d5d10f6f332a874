use Rattle.sqlite.specs.Held.{state}
use Rattle.dh_records.specs.Lists.{is_pass}
use Rattle.dh_records.specs.Codings as coding
use Rattle.dh_tables.proofs.Asking.{asked_for}
use Rattle.dh_tables.proofs.Statements.{pass_asked}
use Rattle.dh_tables.proofs.tables.Tables.has_pass.Goals as goal

pub has_record-requires : goal.has_record-requires
has_record-requires g c = record { query = (coding.passes.encode, rw (c.params-to_sql.ensures, c.params-to_sql-2.ensures, c.as_str.ensures.text, c.as_str-2.ensures.text) (asked_for (pass_asked (state g.S.Store c.args.self.now) c.args.host.now c.args.pass.now))) }

pub returns : goal.returns
returns g c = c.has_record.ensures coding.passes.encode (λ l. l.passes) (is_pass c.args.host.now c.args.pass.now) (rw (c.params-to_sql.ensures, c.params-to_sql-2.ensures, c.as_str.ensures.text, c.as_str-2.ensures.text) (pass_asked (state g.S.Store c.args.self.now) c.args.host.now c.args.pass.now))
