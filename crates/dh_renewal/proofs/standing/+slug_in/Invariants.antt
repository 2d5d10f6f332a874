use Rattle.std.proofs.Common.{length}
use Rattle.dh_renewal.proofs.standing.+slug_in.Given as goal

abbrev pub decreases-slug_in : goal.decreases-slug_in
decreases-slug_in l = length l.rows.now
