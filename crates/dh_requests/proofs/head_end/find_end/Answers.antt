use Rattle.std.proofs.Common.{arith}
use Rattle.dh_requests.proofs.Ends.{found_here}
use Rattle.dh_requests.proofs.head_end.find_end.Goals as goal

pub returns-in-None-clause-found : goal.returns-in-None-clause-found
returns-in-None-clause-found c = (omega arith, found_here _ _ c.args.bytes.now c.loop-i.i c.loop-i-test.true c.loop-i.invariant.scanned c.in-None.ensures.next)
