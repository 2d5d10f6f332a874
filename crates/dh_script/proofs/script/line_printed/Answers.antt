use Rattle.std.proofs.Common.{inl, refl, rules, subst, sym, string_bytes, Option, IfOk, OnErr}
use Rattle.dh_desk.specs.Desk.{WorldGoesBy}
use Rattle.dh_desk.proofs.Moving.{WorldGoesBy-refl}
use Rattle.dh_lines.specs.declared.lines.Line.{Line}
use Rattle.dh_script.proofs.RunLemmas.{on_err}
use Rattle.dh_script.specs.Explaining.{DoesLineFor}
use Rattle.dh_script.specs.Script.{DoesLine, MayDoLine}
use Rattle.dh_script.proofs.script.line_printed.Goals as goal

pub returns-in-Ok-clause-does : goal.returns-in-Ok-clause-does
returns-in-Ok-clause-does g c =
    subst (λ (l : Option Line). WorldGoesBy g.S.Store c.args.desk.now c.own_line.new.desk (λ before after. IfOk c.own_line.result (λ p. DoesLine c.args.now before l after (string_bytes p.text)))) (sym c.in-Ok.ensures.says) c.own_line.ensures.does

pub returns-in-Ok-clause-why : goal.returns-in-Ok-clause-why
returns-in-Ok-clause-why g c =
    subst (λ (l : Option Line). WorldGoesBy g.S.Store c.args.desk.now c.own_line.new.desk (λ before after. IfOk c.own_line.result (λ p. DoesLineFor c.args.now before l after (string_bytes p.text) p.reason))) (sym c.in-Ok.ensures.says) c.own_line.ensures.why

pub returns-in-Ok-clause-may : goal.returns-in-Ok-clause-may
returns-in-Ok-clause-may g c =
    subst (λ (l : Option Line). WorldGoesBy g.S.Store c.args.desk.now c.own_line.new.desk (λ before after. OnErr c.own_line.result (MayDoLine c.args.now before l after))) (sym c.in-Ok.ensures.says) c.own_line.ensures.may

pub returns-in-Err-Usage-clause-does : goal.returns-in-Err-Usage-clause-does
returns-in-Err-Usage-clause-does g c = WorldGoesBy-refl (λ w. search rules)

pub returns-in-Err-Usage-clause-why : goal.returns-in-Err-Usage-clause-why
returns-in-Err-Usage-clause-why g c = WorldGoesBy-refl (λ w. search rules)

pub returns-in-Err-Usage-clause-may : goal.returns-in-Err-Usage-clause-may
returns-in-Err-Usage-clause-may g c = WorldGoesBy-refl (λ w. on_err c.usage.result (inl refl))

pub returns-in-Err-Memory-clause-does : goal.returns-in-Err-Memory-clause-does
returns-in-Err-Memory-clause-does g c = WorldGoesBy-refl (λ w. tt)

pub returns-in-Err-Memory-clause-why : goal.returns-in-Err-Memory-clause-why
returns-in-Err-Memory-clause-why g c = WorldGoesBy-refl (λ w. tt)

pub returns-in-Err-Memory-clause-may : goal.returns-in-Err-Memory-clause-may
returns-in-Err-Memory-clause-may g c = WorldGoesBy-refl (λ w. inl refl)
