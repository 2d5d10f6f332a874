use Rattle.dh_derived.proofs.RightLemmas.{right_but_nothing}
use Rattle.dh_derived.proofs.laws.right_but_nothing.Goals as goal

pub returns : goal.returns
returns c = right_but_nothing
