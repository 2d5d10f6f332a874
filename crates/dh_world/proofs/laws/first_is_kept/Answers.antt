use Rattle.dh_world.proofs.RetryLemmas as retries
use Rattle.dh_world.proofs.laws.first_is_kept.Goals as goal

pub returns : goal.returns
returns c = retries.first_is_kept
