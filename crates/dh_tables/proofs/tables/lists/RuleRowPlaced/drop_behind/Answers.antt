use Rattle.std.proofs.Common.{refl}
use Rattle.sqlite.specs.Held.{state}
use Rattle.dh_records.specs.Changes as change
use Rattle.dh_tables.proofs.Asking.{altered}
use Rattle.dh_tables.proofs.Statements.{drop_rules_behind_alters}
use Rattle.dh_tables.proofs.tables.lists.RuleRowPlaced.drop_behind.Goals as goal

pub write-requires : goal.write-requires
write-requires g c = record { change = rw (c.params-to_sql.ensures, c.params-to_sql-2.ensures, c.as_str.ensures.text, c.in_ok-count.ensures) (altered g.S.Store c.args.tables.now (λ honest had. drop_rules_behind_alters (state g.S.Store c.args.tables.now) had c.args.host.now c.args.count) (λ l. refl)) }

pub returns : goal.returns
returns g c = record { writes = c.write.ensures.writes (change.drop_rules_behind c.args.host.now c.args.count) (rw (c.params-to_sql.ensures, c.params-to_sql-2.ensures, c.as_str.ensures.text, c.in_ok-count.ensures) (λ honest had. drop_rules_behind_alters (state g.S.Store c.args.tables.now) had c.args.host.now c.args.count)) }
