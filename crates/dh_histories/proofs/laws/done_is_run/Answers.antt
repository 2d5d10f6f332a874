use Rattle.dh_histories.proofs.CallLemmas as calls
use Rattle.dh_histories.proofs.laws.done_is_run.Goals as goal

pub returns : goal.returns
returns c = calls.done_is_run
