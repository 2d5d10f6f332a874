use Rattle.std.proofs.Common.{sym}
use Rattle.dh_world.proofs.AnswerLemmas.{told_again}
use Rattle.dh_records.proofs.reading.kept_answer.Goals as goal

pub returns-in-Ok-Some-clause-told : goal.returns-in-Ok-Some-clause-told
returns-in-Ok-Some-clause-told c = let is = rw c.in-Ok-Some.field-0-is at c.in-Ok-Some.ensures.some in sym (told_again c.in-Ok-Some.answer c.args.text.now is.0 is.1)

pub returns-in-Ok-None-clause-refused : goal.returns-in-Ok-None-clause-refused
returns-in-Ok-None-clause-refused c it = c.in-Ok-None.ensures.none c.in-Ok-None.field-0-is it.0 it.1 it.2
