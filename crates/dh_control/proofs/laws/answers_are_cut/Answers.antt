use Rattle.dh_control.proofs.Cuts.{answers_cut}
use Rattle.dh_control.proofs.laws.answers_are_cut.Goals as goal

pub returns : goal.returns
returns c = answers_cut
