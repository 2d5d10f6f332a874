use Rattle.std.proofs.Common.{length}
use Rattle.dh_renewal.proofs.standing.+agree_in.Given as goal

abbrev pub decreases-agree_in : goal.decreases-agree_in
decreases-agree_in l = length l.one.now
