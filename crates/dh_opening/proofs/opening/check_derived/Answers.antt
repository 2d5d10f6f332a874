use Rattle.std.proofs.Common.{◌∙◌, ap, false, rules, subst, sym, true, true≢false}
use Rattle.sqlite.specs.Effect.{Database}
use Rattle.sqlite.specs.Held.{state}
use Rattle.dh_opening.specs.Opening.{CanDeriveAnew}
use Rattle.dh_opening.proofs.Looks.{handed, then_ok, then_seen, then_seen_not_ours}
use Rattle.dh_opening.proofs.Spelling.{none_derived}
use Rattle.dh_opening.proofs.opening.check_derived.Goals as goal

pub returns-in_err-keeps_derived : goal.returns-in_err-keeps_derived
returns-in_err-keeps_derived g c = record { opens = handed c.from_residual.result c.in_err-keeps_derived.field-0.0 c.from_residual.ensures.1 (λ none. absurd none) c.in_err-keeps_derived.ensures.opens }

pub returns-then-branch : goal.returns-then-branch
returns-then-branch g c = record { opens = then_ok c.in_ok-keeps_derived.field-0 c.in_ok-keeps_derived.ensures.opens true (λ honest it. it.0 c.if-branch.true) }

pub returns-then-can_derive_anew : goal.returns-then-can_derive_anew
returns-then-can_derive_anew g c = record {
  opens = then_seen c.in_ok-keeps_derived.field-0 c.in_ok-keeps_derived.ensures.opens false
      (λ now it. ((λ has. true≢false (sym (it.1 has) ∙ c.if-branch.false)), subst CanDeriveAnew (c.schema.ensures.value ∙ ap (λ (db : Database). db.schema) now) (c.can_derive_anew.ensures.0 (search rules))));
}

pub returns-else-can_derive_anew : goal.returns-else-can_derive_anew
returns-else-can_derive_anew g c = record {
  opens = then_seen_not_ours c.in_ok-keeps_derived.field-0 c.in_ok-keeps_derived.ensures.opens
      (λ now it.
      none_derived (state g.S.Store c.args.conn.now).now c.schema.result.now (c.schema.ensures.value ∙ ap (λ (db : Database). db.schema) now) c.can_derive_anew.result c.can_derive_anew.ensures.1 (search rules)
      (λ has. true≢false (sym (it.1 has) ∙ c.if-branch.false)));
}
