use Rattle.std.proofs.Common.{rules}
use Rattle.dh_world.proofs.AnswerLemmas.{not_read}
use Rattle.dh_world.proofs.answer.Answer.read.Goals as goal

pub returns-else-is_memory-clause-none : goal.returns-else-is_memory-clause-none
returns-else-is_memory-clause-none c none = not_read _ (search rules)
