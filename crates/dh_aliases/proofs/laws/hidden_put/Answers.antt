use Rattle.dh_aliases.proofs.HiddenLemmas as lemmas
use Rattle.dh_aliases.proofs.laws.hidden_put.Goals as goal

pub returns : goal.returns
returns c p class slug v hidden named stands = lemmas.hidden_put p class slug v hidden stands named
