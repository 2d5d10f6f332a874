use Rattle.std.proofs.Common.{length}
use Rattle.dh_renewal.proofs.standing.+agree_on.Given as goal

abbrev pub decreases-agree_on : goal.decreases-agree_on
decreases-agree_on l = length l.rows.now
