use Rattle.std.proofs.Common.{[], map, sym, ap, ◌≡◌, ◌∙◌}
use Rattle.std.proofs.lemmas.Result.{IfOk-weaker}
use Rattle.dh_schema.specs.InTurn.{goes_on}
use Rattle.dh_world.specs.Seen.{default_of}
use Rattle.dh_class_names.specs.Rows.{stands_by}
use Rattle.dh_records.specs.Lists.{Lists}
use Rattle.dh_tables.specs.Going.{records}
use Rattle.dh_renewal.specs.ByKey.{versions_at}
use Rattle.dh_renewal.proofs.ByKeyLemmas.{all_passed, first_passed, first_stands}
use Rattle.dh_renewal.proofs.Together.{looks_on}
use Rattle.dh_renewal.proofs.by_key.default_with.Goals as goal

pub returns-then-branch-clause-value : goal.returns-then-branch-clause-value
returns-then-branch-clause-value g c honest =
    let it = c.loop-pick.invariant in
    let before = c.stands.ensures.asks.goes.lasts.was honest in
    let f = λ (k : Lists). stands_by (versions_at c.args.host.now k) c.args.grants.now c.args.latest c.args.stable in
    first_stands (f (records g.S.Store c.args.tables.now)) c.args.picks.now c.loop-pick.pick-index c.pick-item.result c.loop-pick-test.true c.pick-item.is
    c.in_ok-try_copy.field-0 c.in_ok-try_copy.ensures
    (ap (λ (k : Lists). f k c.pick-item.result.name) (sym (it.sees.now_is before))
    ∙ ap (f (records g.S.Store c.loop-pick.tables)) (sym c.as_str.ensures.text) ∙ sym (c.in_ok-stands.ensures.value honest) ∙ c.if-branch.true)
    (it.passed before)

pub loop-pick-preserved : goal.loop-pick-preserved
loop-pick-preserved g c =
    let it = c.loop-pick.invariant in
    let asks = c.in_ok-stands.ensures.asks in record {
      goes = goes_on it.goes it.sees.live c.stands.ensures.asks.goes;
      sees = looks_on g.S.Store c.args.tables.now c.loop-pick.tables c.stands.new.tables it.sees c.stands.ensures.asks.goes asks.looks;
      passed = λ honest.
          let before = c.stands.ensures.asks.goes.lasts.was honest in
          let f = λ (k : Lists). stands_by (versions_at c.args.host.now k) c.args.grants.now c.args.latest c.args.stable in
          first_passed (f (records g.S.Store c.args.tables.now)) c.args.picks.now c.loop-pick.pick-index c.pick-item.result c.loop-pick-test.true c.pick-item.is
          (ap (λ (k : Lists). f k c.pick-item.result.name) (sym (it.sees.now_is before))
          ∙ ap (f (records g.S.Store c.loop-pick.tables)) (sym c.as_str.ensures.text) ∙ sym (c.in_ok-stands.ensures.value honest) ∙ c.if-branch.false)
          (it.passed before);
    }

pub returns-clause-value : goal.returns-clause-value
returns-clause-value g c honest =
    let it = c.loop-pick.invariant in
    let before = c.default_alias.ensures.asks.goes.lasts.was honest in
    let f = λ (k : Lists). stands_by (versions_at c.args.host.now k) c.args.grants.now c.args.latest c.args.stable in
    IfOk-weaker c.default_alias.result (λ name. name ≡ default_of (f (records g.S.Store c.loop-pick.tables)) [])
    (λ name. name ≡ default_of (f (records g.S.Store c.args.tables.now)) (map (λ d. d.name) c.args.picks.now))
    (λ name is. is ∙ ap (λ (k : Lists). default_of (f k) []) (it.sees.now_is before)
    ∙ all_passed (f (records g.S.Store c.args.tables.now)) c.args.picks.now c.loop-pick.pick-index c.loop-pick-test.false (it.passed before))
    (c.default_alias.ensures.value honest)
