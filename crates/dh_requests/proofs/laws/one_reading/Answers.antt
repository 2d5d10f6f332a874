use Rattle.dh_requests.proofs.Requests.{one}
use Rattle.dh_requests.proofs.laws.one_reading.Goals as goal

pub returns : goal.returns
returns c = one
