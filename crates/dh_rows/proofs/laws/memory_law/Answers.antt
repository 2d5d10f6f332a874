use Rattle.std.proofs.Common.{refl}
use Rattle.sqlite_trees.specs.View.{doubt}
use Rattle.dh_rows.proofs.laws.memory_law.Goals as goal

pub returns : goal.returns
unfolding doubt
returns c h = (refl, refl)
