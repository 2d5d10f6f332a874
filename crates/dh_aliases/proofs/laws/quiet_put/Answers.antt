use Rattle.dh_aliases.proofs.PutLemmas as lemmas
use Rattle.dh_aliases.proofs.laws.quiet_put.Goals as goal

pub returns : goal.returns
returns c = lemmas.quiet_put
