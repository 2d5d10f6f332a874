use Rattle.dh_aliases.proofs.TopLemmas as lemmas
use Rattle.dh_aliases.proofs.laws.list_decides.Goals as goal

pub returns : goal.returns
returns c = lemmas.list_decides
