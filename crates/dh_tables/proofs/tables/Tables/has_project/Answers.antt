use Rattle.sqlite.specs.Held.{state}
use Rattle.dh_records.specs.Lists.{is_project}
use Rattle.dh_records.specs.Codings as coding
use Rattle.dh_tables.proofs.Asking.{asked_for}
use Rattle.dh_tables.proofs.Statements.{project_asked}
use Rattle.dh_tables.proofs.tables.Tables.has_project.Goals as goal

pub has_record-requires : goal.has_record-requires
has_record-requires g c = record { query = (coding.projects.encode, rw (c.params-to_sql.ensures, c.as_str.ensures.text) (asked_for (project_asked (state g.S.Store c.args.self.now) c.args.host.now))) }

pub returns : goal.returns
returns g c = c.has_record.ensures coding.projects.encode (λ l. l.projects) (is_project c.args.host.now) (rw (c.params-to_sql.ensures, c.as_str.ensures.text) (project_asked (state g.S.Store c.args.self.now) c.args.host.now))
