use Rattle.std.proofs.Common.{rules, arith}
use Rattle.dh_control.proofs.Cuts.{ended_at, open_at}
use Rattle.dh_control.proofs.cutting.whole_lines.Goals as goal

pub returns-then-last-eq10-clause-lines : goal.returns-then-last-eq10-clause-lines
returns-then-last-eq10-clause-lines c =
    ended_at c.args.bytes.now c.loop-last.lines.now c.in-Some.front.now c.in-Some.last.now c.loop-last.invariant.0 c.in-Some.ensures.cases.0 (search rules)

pub loop-last-preserved : goal.loop-last-preserved
loop-last-preserved c = (
  open_at c.args.bytes.now c.loop-last.lines.now c.in-Some.front.now c.in-Some.last.now c.loop-last.invariant.0 c.in-Some.ensures.cases.0 (search rules),
  omega (arith, c.loop-last.invariant.1, c.in-Some.ensures.cases.1),
)
