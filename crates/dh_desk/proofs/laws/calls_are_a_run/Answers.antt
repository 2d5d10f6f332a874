use Rattle.dh_desk.proofs.Calling.{is_desk_run}
use Rattle.dh_desk.proofs.laws.calls_are_a_run.Goals as goal

pub returns : goal.returns
returns g c = is_desk_run g.S.Store
