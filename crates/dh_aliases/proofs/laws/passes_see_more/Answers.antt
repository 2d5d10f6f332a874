use Rattle.dh_aliases.proofs.PassLemmas as lemmas
use Rattle.dh_aliases.proofs.laws.passes_see_more.Goals as goal

pub returns : goal.returns
returns c = lemmas.passes_see_more
