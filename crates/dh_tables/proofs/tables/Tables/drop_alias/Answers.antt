use Rattle.std.proofs.Common.{refl}
use Rattle.sqlite.specs.Held.{state}
use Rattle.dh_records.specs.Changes as change
use Rattle.dh_tables.proofs.Asking.{altered}
use Rattle.dh_tables.proofs.Statements.{drop_alias_alters}
use Rattle.dh_tables.proofs.tables.Tables.drop_alias.Goals as goal

pub write-requires : goal.write-requires
write-requires g c = record { change = rw (c.params-to_sql.ensures, c.params-to_sql-2.ensures, c.params-to_sql-3.ensures, c.as_str.ensures.text, c.alias_number.ensures) (altered g.S.Store c.args.self.now (λ honest had. drop_alias_alters (state g.S.Store c.args.self.now) had c.args.host.now c.args.class.now c.args.name) (λ l. refl)) }

pub returns : goal.returns
returns g c = record { writes = c.write.ensures.writes (change.drop_alias c.args.host.now c.args.class.now c.args.name) (rw (c.params-to_sql.ensures, c.params-to_sql-2.ensures, c.params-to_sql-3.ensures, c.as_str.ensures.text, c.alias_number.ensures) (λ honest had. drop_alias_alters (state g.S.Store c.args.self.now) had c.args.host.now c.args.class.now c.args.name)) }
