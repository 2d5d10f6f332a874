use Rattle.dh_world.proofs.RetryLemmas as retries
use Rattle.dh_world.proofs.laws.kept_stays.Goals as goal

pub returns : goal.returns
returns c = retries.kept_stays
