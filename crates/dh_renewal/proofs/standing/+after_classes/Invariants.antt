use Rattle.std.proofs.Common.{length}
use Rattle.dh_renewal.proofs.standing.+after_classes.Given as goal

abbrev pub decreases-after_classes : goal.decreases-after_classes
decreases-after_classes l = length l.all.now
