use Rattle.dh_world.proofs.RetryLemmas as retries
use Rattle.dh_world.proofs.laws.answers_for_good.Goals as goal

pub returns : goal.returns
returns c = retries.answers_for_good
