use Rattle.sqlite.specs.Held.{state}
use Rattle.std.proofs.Common.{None}
use Rattle.dh_records.specs.Changes as change
use Rattle.dh_tables.proofs.Asking.{altered_pages}
use Rattle.dh_tables.proofs.Statements.{drop_pages_of_alters}
use Rattle.dh_tables.proofs.tables.Tables.drop_pages_of.Goals as goal

pub write_pages-requires : goal.write_pages-requires
write_pages-requires g c = record { change = rw (c.params-to_sql.ensures, c.params-to_sql-2.ensures, c.as_str.ensures.text, c.as_str-2.ensures.text) (altered_pages g.S.Store c.args.self.now (λ honest had. drop_pages_of_alters (state g.S.Store c.args.self.now) had c.args.host.now c.args.slug.now)) }

pub returns : goal.returns
returns g c = record { writes = c.write_pages.ensures.writes (change.drop_pages c.args.host.now c.args.slug.now None) (rw (c.params-to_sql.ensures, c.params-to_sql-2.ensures, c.as_str.ensures.text, c.as_str-2.ensures.text) (λ honest had. drop_pages_of_alters (state g.S.Store c.args.self.now) had c.args.host.now c.args.slug.now)) }
