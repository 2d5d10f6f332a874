use Rattle.dh_requests.proofs.Decided.{each}
use Rattle.dh_requests.proofs.laws.each_reading.Goals as goal

pub returns : goal.returns
returns c = each
