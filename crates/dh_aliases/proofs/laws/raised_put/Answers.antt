use Rattle.dh_aliases.proofs.PutLemmas as lemmas
use Rattle.dh_aliases.proofs.laws.raised_put.Goals as goal

pub returns : goal.returns
returns c = lemmas.raised_put
