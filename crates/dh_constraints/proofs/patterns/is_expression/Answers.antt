use Rattle.std.proofs.Common.{sym}
use Rattle.dh_constraints.proofs.PatternLemmas.{read_is_expression, refused_is_none}
use Rattle.dh_constraints.proofs.patterns.is_expression.Goals as goal
use Rattle.dh_constraints.proofs.patterns.is_expression.Goals.{in-Ok, in-Err+in-OutOfMemory, in-Err+in_default}

pub returns : goal.returns
returns c = elim c.match-parse.branch [
  | in-Ok w ↦ rw w.result-is (sym (read_is_expression c.default.result c.args.text.now _ _ c.default.ensures w.in-Ok.ensures.ok))
  | in-Err+in-OutOfMemory w ↦ rw w.result-is tt
  | in-Err+in_default w ↦ rw w.result-is (sym (refused_is_none c.default.result c.args.text.now _ c.default.ensures w.in-Err.ensures.err w.in_default.not-OutOfMemory))
]
