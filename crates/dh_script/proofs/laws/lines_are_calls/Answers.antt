use Rattle.dh_script.proofs.LineCallLemmas as lines
use Rattle.dh_script.proofs.laws.lines_are_calls.Goals as goal

pub returns : goal.returns
returns c = lines.lines_are_calls
