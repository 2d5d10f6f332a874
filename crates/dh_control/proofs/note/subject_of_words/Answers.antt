use Rattle.dh_control.proofs.Noted.{line_noted}
use Rattle.dh_control.proofs.note.subject_of_words.Goals as goal

pub returns-in-Ok : goal.returns-in-Ok
returns-in-Ok c = line_noted c.subject_of_order.result c.ok.result _ c.in-Ok.line c.ok.ensures.value c.in-Ok.ensures c.subject_of_order.ensures
