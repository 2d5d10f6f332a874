use Rattle.std.proofs.Common.{sym, subst}
use Rattle.std.specs.Prelude.{IfOk}
use Rattle.dh_control.specs.Notes.{IsOfList}
use Rattle.dh_control.proofs.note.subject_of_list.Goals as goal

pub returns-in-Projects : goal.returns-in-Projects
returns-in-Projects c = subst (λ word. IfOk c.new.result (IsOfList word)) (sym c.in-Projects.is) c.new.ensures
