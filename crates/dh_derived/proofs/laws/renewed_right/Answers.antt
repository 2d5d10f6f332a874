use Rattle.dh_derived.proofs.RenewedLemmas.{renewed_right}
use Rattle.dh_derived.proofs.laws.renewed_right.Goals as goal

pub returns : goal.returns
returns c = renewed_right
