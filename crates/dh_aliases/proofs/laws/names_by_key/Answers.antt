use Rattle.dh_aliases.proofs.PassLemmas as lemmas
use Rattle.dh_aliases.proofs.laws.names_by_key.Goals as goal

pub returns : goal.returns
returns c = lemmas.names_by_key
