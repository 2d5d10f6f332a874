use Rattle.dh_versions.proofs.BestLemmas.{IsBest}
use Rattle.dh_versions.proofs.aliases.stable.Given as goal

abbrev pub invariant-loop-i : goal.invariant-loop-i
invariant-loop-i l = IsBest l.versions l.i l.best
