use Rattle.std.proofs.Common.{length}
use Rattle.dh_opening.proofs.rows.+compare_at.Given as goal

abbrev pub decreases-compare_at : goal.decreases-compare_at
decreases-compare_at l = length l.places.now
