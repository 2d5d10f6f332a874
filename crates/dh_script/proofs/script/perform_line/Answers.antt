use Rattle.std.proofs.Common.{◌≡◌, inl, map, refl, rules, string_bytes, subst, List, IfOk, OnErr}
use Rattle.dh_desk.specs.Desk.{WorldGoesBy}
use Rattle.dh_desk.proofs.Moving.{WorldGoesBy-refl}
use Rattle.dh_lines.specs.Lines.{line_in}
use Rattle.dh_world.specs.World.{Text}
use Rattle.dh_script.proofs.RunLemmas.{on_err}
use Rattle.dh_script.specs.Explaining.{DoesLineFor}
use Rattle.dh_script.specs.Running.{words_in}
use Rattle.dh_script.specs.Script.{DoesLine, MayDoLine}
use Rattle.dh_script.proofs.script.perform_line.Goals as goal

pub returns-in_err-words-clause-does : goal.returns-in_err-words-clause-does
returns-in_err-words-clause-does g c = WorldGoesBy-refl (λ w. search rules)

pub returns-in_err-words-clause-why : goal.returns-in_err-words-clause-why
returns-in_err-words-clause-why g c = WorldGoesBy-refl (λ w. search rules)

pub returns-in_err-words-clause-may : goal.returns-in_err-words-clause-may
returns-in_err-words-clause-may g c = WorldGoesBy-refl (λ w. on_err c.from_residual.result (inl refl))

pub returns-in_err-program-clause-does : goal.returns-in_err-program-clause-does
returns-in_err-program-clause-does g c = WorldGoesBy-refl (λ w. search rules)

pub returns-in_err-program-clause-why : goal.returns-in_err-program-clause-why
returns-in_err-program-clause-why g c = WorldGoesBy-refl (λ w. search rules)

pub returns-in_err-program-clause-may : goal.returns-in_err-program-clause-may
returns-in_err-program-clause-may g c = WorldGoesBy-refl (λ w. on_err c.from_residual-in_err-program.result (inl refl))

pub returns-clause-does : goal.returns-clause-does
returns-clause-does g c =
    let same : map string_bytes c.as_slice.result.now ≡ words_in c.args.line.now = search rules in
    subst (λ (ws : List Text). WorldGoesBy g.S.Store c.args.desk.now c.line_printed.new.desk (λ before after. IfOk c.line_printed.result (λ p. DoesLine c.args.now before (line_in ws) after (string_bytes p.text)))) same c.line_printed.ensures.does

pub returns-clause-why : goal.returns-clause-why
returns-clause-why g c =
    let same : map string_bytes c.as_slice.result.now ≡ words_in c.args.line.now = search rules in
    subst (λ (ws : List Text). WorldGoesBy g.S.Store c.args.desk.now c.line_printed.new.desk (λ before after. IfOk c.line_printed.result (λ p. DoesLineFor c.args.now before (line_in ws) after (string_bytes p.text) p.reason))) same c.line_printed.ensures.why

pub returns-clause-may : goal.returns-clause-may
returns-clause-may g c =
    let same : map string_bytes c.as_slice.result.now ≡ words_in c.args.line.now = search rules in
    subst (λ (ws : List Text). WorldGoesBy g.S.Store c.args.desk.now c.line_printed.new.desk (λ before after. OnErr c.line_printed.result (MayDoLine c.args.now before (line_in ws) after))) same c.line_printed.ensures.may
