use Rattle.std.proofs.Common.{IfSome, subst}
use Rattle.dh_control.specs.Notes.{IsFor}
use Rattle.dh_control.proofs.note.subject_of_body.Goals as goal

pub returns-in-Some : goal.returns-in-Some
returns-in-Some c = subst (λ rest. IfSome c.subject_of_rest.result (IsFor rest)) c.in-Some.ensures c.subject_of_rest.ensures
