use Rattle.std.proofs.Common.{◌∙◌, ap}
use Rattle.sqlite_trees.specs.Tree.{Trees}
use Rattle.sqlite.specs.Effect.{Database}
use Rattle.sqlite.specs.Held.{state}
use Rattle.dh_rows.proofs.laws.crash_law.Goals as goal

abbrev with_trees : Database → Trees → Database
with_trees db trees = record { schema = db.schema; trees = trees }

pub returns : goal.returns
returns g c h honest w left =
    left.2 ∙ ap (with_trees (state g.S.Store h).committed) (g.met.S.Store.settled h.store left.0 honest.1 left.1)
