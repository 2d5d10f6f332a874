use Rattle.sqlite.specs.Held.{state}
use Rattle.dh_records.specs.Lists.{is_version}
use Rattle.dh_tables.proofs.Asking.{asked_for}
use Rattle.dh_tables.proofs.Statements.{version_asked}
use Rattle.dh_tables.proofs.tables.Tables.version.Goals as goal

pub first_record-requires : goal.first_record-requires
first_record-requires g c = record { query = rw (c.params-to_sql.ensures, c.params-to_sql-2.ensures, c.as_str.ensures.text) (asked_for (version_asked (state g.S.Store c.args.self.now) c.args.host.now c.args.slug.now)) }

pub returns : goal.returns
returns g c = c.first_record.ensures (λ l. l.versions) (is_version c.args.host.now c.args.slug.now) (rw (c.params-to_sql.ensures, c.params-to_sql-2.ensures, c.as_str.ensures.text) (version_asked (state g.S.Store c.args.self.now) c.args.host.now c.args.slug.now))
