use Rattle.dh_redirects.proofs.LawLemmas.{filled-end, filled-splat, filled-byte}
use Rattle.dh_redirects.proofs.laws.to_is_filled_from_the_left.Goals as goal

pub returns : goal.returns
returns c = record { end = filled-end; splat = filled-splat; byte = filled-byte }
