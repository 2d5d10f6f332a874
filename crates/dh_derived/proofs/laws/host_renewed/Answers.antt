use Rattle.dh_derived.proofs.RenewedLemmas.{host_renewed_right}
use Rattle.dh_derived.proofs.laws.host_renewed.Goals as goal

pub returns : goal.returns
returns c = host_renewed_right
