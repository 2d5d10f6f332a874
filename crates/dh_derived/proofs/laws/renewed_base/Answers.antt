use Rattle.dh_derived.proofs.RenewedLemmas.{renewed_base}
use Rattle.dh_derived.proofs.laws.renewed_base.Goals as goal

pub returns : goal.returns
returns c = renewed_base
