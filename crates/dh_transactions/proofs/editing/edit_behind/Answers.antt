use Rattle.dh_tables.specs.Going.{records}
use Rattle.dh_transactions.proofs.EditingLemmas.{changes_behind, made_behind, may_behind}
use Rattle.dh_transactions.proofs.editing.edit_behind.Goals as goal

pub make_edit-requires-clause-may : goal.make_edit-requires-clause-may
make_edit-requires-clause-may g c honest = may_behind c.args.host.now c.args.edit (records g.S.Store c.args.tables.now) c.args.due (c.requires.may honest)

pub returns : goal.returns
returns g c = record {
  edits =
      made_behind g.S.Store c.args.tables.now c.make_edit.new.tables c.args.host.now c.args.edit c.args.due
      c.make_edit.ensures.makes.goes c.in_ok-make_edit.ensures.makes.sees
      (λ honest.
      changes_behind c.args.host.now c.args.edit (records g.S.Store c.args.tables.now) c.args.due
      (c.requires.may (c.make_edit.ensures.makes.goes.lasts.was honest)) c.requires.fits);
}
