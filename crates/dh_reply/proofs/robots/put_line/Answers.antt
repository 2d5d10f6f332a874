use Rattle.std.proofs.Common.{append_assoc}
use Rattle.dh_reply.specs.System.{disallow}
use Rattle.dh_reply.proofs.robots.put_line.Goals as goal

pub returns : goal.returns
unfolding disallow
returns c = rw c.in_ok-writeln.ensures.bytes (simp append_assoc)
