use Rattle.std.proofs.Common.{◌∙◌, IsTrue, subst}
use Rattle.std.proofs.lemmas.Result.{IfOk-weaker}
use Rattle.dh_records.specs.Constraints.{AreSound}
use Rattle.dh_records.specs.Lists.{Lists}
use Rattle.dh_tables.specs.Going.{records}
use Rattle.dh_renewal.specs.Standing.{AreAliasesDue}
use Rattle.dh_renewal.proofs.checking.aliases_stand.Goals as goal

pub returns-clause-value : goal.returns-clause-value
returns-clause-value g c honest =
    let l : Lists = records g.S.Store c.args.tables.now in
    let projects = c.args.projects.now in
    let rows = c.as_slice.result.now in
    let before = c.are_due.ensures.asks.goes.lasts.was honest in
    IfOk-weaker c.are_due.result
    (λ yes. AreSound (records g.S.Store c.aliases_of.new.tables) → IsTrue yes → AreAliasesDue (records g.S.Store c.aliases_of.new.tables) projects rows)
    (λ yes. AreSound l → IsTrue yes → AreAliasesDue l projects l.aliases)
    (λ yes it sound told.
    subst (AreAliasesDue l projects) (c.as_slice.ensures.value ∙ c.in_ok-aliases.ensures.value before)
    (subst (λ (k : Lists). AreSound k → AreAliasesDue k projects rows) (c.in_ok-aliases.ensures.asks.looks.now_is before) (λ s. it s told) sound))
    (c.are_due.ensures.value honest)
