use Rattle.std.proofs.Common.{sym, subst}
use Rattle.dh_tables.specs.Going.{records}
use Rattle.dh_edits.specs.RowEdits.{RowsMay}
use Rattle.dh_transactions.proofs.EditingLemmas.{changes_next, made_next, may_next}
use Rattle.dh_transactions.proofs.editing.edit_next.Goals as goal

pub make_edit-requires-clause-may : goal.make_edit-requires-clause-may
make_edit-requires-clause-may g c honest =
    subst (RowsMay c.args.host.now c.args.edit) (sym (c.in_ok-renewal.ensures.asks.looks.now_is honest))
    (may_next c.args.host.now c.args.edit (records g.S.Store c.args.tables.now) c.in_ok-renewal.renewal (c.requires.may (c.renewal_for.ensures.asks.goes.lasts.was honest)))

pub returns : goal.returns
returns g c = record {
  edits =
      made_next g.S.Store c.args.tables.now c.renewal_for.new.tables c.make_edit.new.tables c.args.host.now c.args.edit c.in_ok-renewal.renewal
      c.renewal_for.ensures.asks.goes c.in_ok-renewal.ensures.asks.looks c.make_edit.ensures.makes.goes c.in_ok-make_edit.ensures.makes.sees
      (λ honest.
      let before = c.make_edit.ensures.makes.goes.lasts.was honest in
      changes_next c.args.host.now c.args.edit (records g.S.Store c.args.tables.now) c.in_ok-renewal.renewal
      (c.requires.may (c.renewal_for.ensures.asks.goes.lasts.was before)) (c.in_ok-renewal.ensures.value before));
}
