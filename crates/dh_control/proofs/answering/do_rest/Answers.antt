use Rattle.std.proofs.Common.{◌≡◌, None, Some, refl, rules}
use Rattle.dh_desk.proofs.Moving.{WorldGoesBy-refl, WorldGoesBy-weaker}
use Rattle.dh_control.specs.Messages.{behind, import_mark, line_mark, words_mark}
use Rattle.dh_control.proofs.Whole.{rest_done}
use Rattle.dh_control.proofs.answering.do_rest.Goals as goal

pub returns-in-Some-clause-does : goal.returns-in-Some-clause-does
returns-in-Some-clause-does g c =
    WorldGoesBy-weaker c.do_sent.ensures.does
    (λ u v. rest_done c.args.now u v _ _ c.do_sent.result c.args.rest.now (Some c.in-Some.sent.now) (behind line_mark c.args.rest.now) (behind import_mark c.args.rest.now) c.in-Some.ensures refl refl)

pub returns-in-Some-behind-clause-does : goal.returns-in-Some-behind-clause-does
returns-in-Some-behind-clause-does g c =
    let none : None ≡ behind words_mark c.args.rest.now = search rules in
    WorldGoesBy-weaker c.do_sent_line.ensures.does
    (λ u v. rest_done c.args.now u v _ _ c.do_sent_line.result c.args.rest.now None (Some c.in-Some-behind.line.now) (behind import_mark c.args.rest.now) none c.in-Some-behind.ensures refl)

pub returns-in-Some-behind-2-clause-does : goal.returns-in-Some-behind-2-clause-does
returns-in-Some-behind-2-clause-does g c =
    let none : None ≡ behind words_mark c.args.rest.now = search rules in
    let no_line : None ≡ behind line_mark c.args.rest.now = search rules in
    WorldGoesBy-weaker c.do_import.ensures.does
    (λ u v. rest_done c.args.now u v _ _ c.do_import.result c.args.rest.now None None (Some c.in-Some-behind-2.sent.now) none no_line c.in-Some-behind-2.ensures)

pub returns-in-None-clause-does : goal.returns-in-None-clause-does
returns-in-None-clause-does g c =
    let none : None ≡ behind words_mark c.args.rest.now = search rules in
    let no_line : None ≡ behind line_mark c.args.rest.now = search rules in
    WorldGoesBy-refl (λ w. rest_done c.args.now w w _ _ _ c.args.rest.now None None None none no_line c.in-None.ensures (refl, refl, refl))
