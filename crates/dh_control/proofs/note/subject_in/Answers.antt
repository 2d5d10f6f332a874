use Rattle.std.proofs.Common.{IfSome, subst}
use Rattle.std.specs.Option.{option_and_then}
use Rattle.dh_control.specs.Messages.{rest_for}
use Rattle.dh_control.specs.Notes.{IsFor}
use Rattle.dh_control.proofs.note.subject_in.Goals as goal

pub returns-in-Some : goal.returns-in-Some
returns-in-Some c =
    subst (λ body. IfSome c.subject_of_body.result (IsFor (option_and_then (rest_for c.args.file.now) body))) c.in-Some.ensures c.subject_of_body.ensures
