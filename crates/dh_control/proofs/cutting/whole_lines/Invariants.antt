use Rattle.std.proofs.Common.{◌≡◌, ◌≤◌, length}
use Rattle.dh_control.specs.Cutting.{whole_lines}
use Rattle.dh_control.proofs.cutting.whole_lines.Given as goal

abbrev pub invariant-loop-last : goal.invariant-loop-last
invariant-loop-last l = (whole_lines l.bytes ≡ whole_lines l.lines) × (length l.lines ≤ length l.bytes)

abbrev pub decreases-loop-last : goal.decreases-loop-last
decreases-loop-last l = length l.lines
