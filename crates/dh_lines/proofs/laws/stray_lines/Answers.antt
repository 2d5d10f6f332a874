use Rattle.dh_lines.proofs.FormLines.{stray_line}
use Rattle.dh_lines.proofs.laws.stray_lines.Goals as goal

pub returns : goal.returns
returns c = stray_line
