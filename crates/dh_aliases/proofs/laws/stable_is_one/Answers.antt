use Rattle.dh_aliases.proofs.TopLemmas as lemmas
use Rattle.dh_aliases.proofs.laws.stable_is_one.Goals as goal

pub returns : goal.returns
returns c = lemmas.stable_is_one
