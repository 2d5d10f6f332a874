use Rattle.std.proofs.Common.{inl, refl, rules}
use Rattle.dh_desk.proofs.Moving.{WorldGoesBy-refl, WorldGoesBy-weaker}
use Rattle.dh_script.proofs.RunLemmas.{on_err}
use Rattle.dh_script.proofs.ScriptLemmas.{may_line}
use Rattle.dh_script.proofs.script.own_line.Goals as goal

pub returns-in-Some-clause-does : goal.returns-in-Some-clause-does
returns-in-Some-clause-does g c = WorldGoesBy-refl (λ w. search rules)

pub returns-in-Some-clause-why : goal.returns-in-Some-clause-why
returns-in-Some-clause-why g c = WorldGoesBy-refl (λ w. search rules)

pub returns-in-Some-clause-may : goal.returns-in-Some-clause-may
returns-in-Some-clause-may g c = WorldGoesBy-refl (λ w. on_err c.usage.result (inl refl))

pub returns-in_ok-perform-in-None-clause-does : goal.returns-in_ok-perform-in-None-clause-does
returns-in_ok-perform-in-None-clause-does g c = WorldGoesBy-weaker c.in_ok-perform-in-None.ensures.performs (λ u v it. search (rules, it))

pub returns-in_ok-perform-in-None-clause-why : goal.returns-in_ok-perform-in-None-clause-why
returns-in_ok-perform-in-None-clause-why g c = WorldGoesBy-weaker c.in_ok-perform-in-None.ensures.why (λ u v it. search (rules, it))

pub returns-in_err-perform-in-None-clause-why : goal.returns-in_err-perform-in-None-clause-why
returns-in_err-perform-in-None-clause-why g c = WorldGoesBy-weaker c.in_err-perform-in-None.ensures.may (λ u v may. search rules)

pub returns-in_err-perform-in-None-clause-does : goal.returns-in_err-perform-in-None-clause-does
returns-in_err-perform-in-None-clause-does g c = WorldGoesBy-weaker c.in_err-perform-in-None.ensures.may (λ u v may. search rules)

pub returns-in_err-perform-in-None-clause-may : goal.returns-in_err-perform-in-None-clause-may
returns-in_err-perform-in-None-clause-may g c =
    WorldGoesBy-weaker c.in_err-perform-in-None.ensures.may (λ u v may. on_err c.from_residual.result (may_line c.args.now u v c.args.line.now c.in-None.is may))
