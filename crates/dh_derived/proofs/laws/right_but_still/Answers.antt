use Rattle.dh_derived.proofs.RightLemmas.{right_but_still}
use Rattle.dh_derived.proofs.laws.right_but_still.Goals as goal

pub returns : goal.returns
returns c = right_but_still
