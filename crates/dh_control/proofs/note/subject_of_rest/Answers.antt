use Rattle.std.proofs.Common.{◌≡◌, None, Some, refl, rules}
use Rattle.dh_control.specs.Messages.{behind, import_mark, line_mark, words_mark}
use Rattle.dh_control.proofs.Noted.{rest_noted}
use Rattle.dh_control.proofs.note.subject_of_rest.Goals as goal

pub returns-in-Some : goal.returns-in-Some
returns-in-Some c =
    rest_noted c.subject_of_sent.result c.args.rest.now (Some c.in-Some.sent.now) (behind line_mark c.args.rest.now) (behind import_mark c.args.rest.now) c.in-Some.ensures refl refl
    c.subject_of_sent.ensures

pub returns-in-Some-behind : goal.returns-in-Some-behind
returns-in-Some-behind c =
    let none : None ≡ behind words_mark c.args.rest.now = search rules in
    rest_noted c.subject_of_line.result c.args.rest.now None (Some c.in-Some-behind.line.now) (behind import_mark c.args.rest.now) none c.in-Some-behind.ensures refl
    c.subject_of_line.ensures

pub returns-in-Some-behind-2 : goal.returns-in-Some-behind-2
returns-in-Some-behind-2 c =
    let none : None ≡ behind words_mark c.args.rest.now = search rules in
    let no_line : None ≡ behind line_mark c.args.rest.now = search rules in
    rest_noted c.subject_of_import.result c.args.rest.now None None (Some c.in-Some-behind-2.sent.now) none no_line c.in-Some-behind-2.ensures
    c.subject_of_import.ensures
