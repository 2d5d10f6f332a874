use Rattle.dh_control.proofs.Words.{no_text}
use Rattle.dh_control.proofs.end.read_end.Goals as goal

pub returns-in_default : goal.returns-in_default
returns-in_default c = no_text c.args.word.now c.in_default.ensures.cases.0
