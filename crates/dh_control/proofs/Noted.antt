-- What is noted of a message, by its parts.
use Rattle.std.proofs.Common.{◌≡◌, [], Option, Some, Result, Ok, Err, IfOk, IfSome, subst, subst₂, sym}
use Rattle.std.specs.Prelude.{codes}
use Rattle.std.specs.Result.{result_ok}
use Rattle.dh_lines.specs.declared.lines.Line.{Line}
use Rattle.dh_log.specs.Subjects.{IsSubject}
use Rattle.dh_log.specs.declared.subject.Subject.{Subject}
use Rattle.dh_world.specs.World.{Text}
use Rattle.dh_control.specs.Messages.{behind, host_and_list, import_mark, line_mark, words_mark}
use Rattle.dh_control.specs.Notes.{IsOfImport, IsOfLine, IsOfOrder, IsOfRest, IsOfSent}

-- the order of a line
pub line_noted : {E : Type 0} (made : Result Subject E) (noted : Option Subject) (line : Option Line) (its : Line)
    → noted ≡ result_ok made → line ≡ Some its → IfOk made (IsOfOrder its.order) → IfSome noted (IsOfLine line)
line_noted (Ok subject) noted line its is found of = subst₂ (λ n l. IfSome n (IsOfLine l)) (sym is) (sym found) of
line_noted (Err fault) noted line its is found of = subst (λ n. IfSome n (IsOfLine line)) (sym is) tt

-- an import
pub import_noted : {E : Type 0} (made : Result Subject E) (noted : Option Subject) (sent host list named : Text)
    → noted ≡ result_ok made → Some (host, list) ≡ host_and_list sent → named ≡ host
    → IfOk made (IsSubject (codes "import") named []) → IfSome noted (IsOfImport (host_and_list sent))
import_noted (Ok subject) noted sent host list named is found same of =
    subst₂ (λ n p. IfSome n (IsOfImport p)) (sym is) found (subst (λ h. IsSubject (codes "import") h [] subject) same of)
import_noted (Err fault) noted sent host list named is found same of = subst (λ n. IfSome n (IsOfImport (host_and_list sent))) (sym is) tt

-- what stands behind the head
pub rest_noted : (noted : Option Subject) (rest : Text) (sent line sent_import : Option Text)
    → sent ≡ behind words_mark rest → line ≡ behind line_mark rest → sent_import ≡ behind import_mark rest
    → IfSome noted (IsOfSent sent line sent_import) → IfSome noted (IsOfRest rest)
rest_noted noted rest sent line sent_import words lines imports of =
    let first = subst₂ (λ s t. IfSome noted (IsOfSent s t sent_import)) words lines of in
    subst (λ i. IfSome noted (IsOfSent (behind words_mark rest) (behind line_mark rest) i)) imports first
