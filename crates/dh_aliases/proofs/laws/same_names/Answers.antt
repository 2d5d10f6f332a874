use Rattle.dh_aliases.proofs.NameLemmas as lemmas
use Rattle.dh_aliases.proofs.laws.same_names.Goals as goal

pub returns : goal.returns
returns c = lemmas.same_names
