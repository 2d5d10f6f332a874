use Rattle.dh_requests.proofs.Whole.{by_lines}
use Rattle.dh_requests.proofs.laws.whole_head.Goals as goal

pub returns : goal.returns
returns c = by_lines
