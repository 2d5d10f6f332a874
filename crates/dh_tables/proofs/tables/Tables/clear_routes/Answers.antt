use Rattle.std.proofs.Common.{refl}
use Rattle.sqlite.specs.Held.{state}
use Rattle.dh_tables.specs.Clearing.{without_routes}
use Rattle.dh_tables.proofs.Asking.{altered}
use Rattle.dh_tables.proofs.WholeStatements.{clear_routes_alters}
use Rattle.dh_tables.proofs.tables.Tables.clear_routes.Goals as goal

pub write-requires : goal.write-requires
write-requires g c = record { change = altered g.S.Store c.args.self.now (λ honest had. clear_routes_alters (state g.S.Store c.args.self.now) had) (λ l. refl) }

pub returns : goal.returns
returns g c = record { writes = c.write.ensures.writes without_routes (λ honest had. clear_routes_alters (state g.S.Store c.args.self.now) had) }
