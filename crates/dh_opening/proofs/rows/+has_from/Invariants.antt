use Rattle.std.proofs.Common.{length}
use Rattle.dh_opening.proofs.rows.+has_from.Given as goal

abbrev pub decreases-has_from : goal.decreases-has_from
decreases-has_from l = length l.values.now
