use Rattle.std.proofs.Common.{refl}
use Rattle.sqlite.specs.Held.{state}
use Rattle.dh_tables.specs.Clearing.{without_aliases}
use Rattle.dh_tables.proofs.Asking.{altered}
use Rattle.dh_tables.proofs.WholeStatements.{clear_aliases_alters}
use Rattle.dh_tables.proofs.tables.Tables.clear_aliases.Goals as goal

pub write-requires : goal.write-requires
write-requires g c = record { change = altered g.S.Store c.args.self.now (λ honest had. clear_aliases_alters (state g.S.Store c.args.self.now) had) (λ l. refl) }

pub returns : goal.returns
returns g c = record { writes = c.write.ensures.writes without_aliases (λ honest had. clear_aliases_alters (state g.S.Store c.args.self.now) had) }
