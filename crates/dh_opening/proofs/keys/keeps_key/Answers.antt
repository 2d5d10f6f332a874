use Rattle.std.proofs.Common.{◌≡◌, ◌↔◌, ◌∙◌, false, IsTrue, sym, true≢false}
use Rattle.std.proofs.lemmas.Result.{IfOk-weaker}
use Rattle.dh_constraints.specs.Keys.{IsFitKey}
use Rattle.dh_records.specs.declared.records.RetryRow.{RetryRow}
use Rattle.dh_opening.specs.RetryKeys.{KeepsFitKey}
use Rattle.dh_opening.proofs.RetryKeyLemmas.{none_fits}
use Rattle.dh_opening.proofs.keys.keeps_key.Goals as goal

pub returns-in-Some-clause-some : goal.returns-in-Some-clause-some
returns-in-Some-clause-some c =
    let projects = c.args.projects.now.rows.items in
    let kept = rw c.in-Some.is at c.in_ok-key.ensures.some in
    IfOk-weaker c.is_fit_key.result (λ b. IsTrue b ↔ IsFitKey projects c.in-Some.key) (λ b. IsTrue b → (x : RetryRow) × KeepsFitKey projects c.args.row.now x)
    (λ b both told. (c.in-Some.key, (kept, both.0 told))) c.is_fit_key.ensures

pub returns-in-Some-clause-none : goal.returns-in-Some-clause-none
returns-in-Some-clause-none c =
    let projects = c.args.projects.now.rows.items in
    let kept = rw c.in-Some.is at c.in_ok-key.ensures.some in
    IfOk-weaker c.is_fit_key.result (λ b. IsTrue b ↔ IsFitKey projects c.in-Some.key) (λ b. b ≡ false → (x : RetryRow) → ¬ KeepsFitKey projects c.args.row.now x)
    (λ b both untold. none_fits projects c.args.row.now c.in-Some.key kept (λ fit. true≢false (sym (both.1 fit) ∙ untold))) c.is_fit_key.ensures

pub returns-in-None-clause-none : goal.returns-in-None-clause-none
returns-in-None-clause-none c untold x keeps = c.in_ok-key.ensures.none c.in-None.is x keeps.0
