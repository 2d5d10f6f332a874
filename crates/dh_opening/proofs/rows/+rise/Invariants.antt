use Rattle.std.proofs.Common.{length}
use Rattle.dh_opening.proofs.rows.+rise.Given as goal

abbrev pub decreases-rise : goal.decreases-rise
decreases-rise l = length l.rows.now
