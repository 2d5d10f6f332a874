use Rattle.std.proofs.Common.{◌≡◌}
use Rattle.std.specs.Vec.Iter.{into_iter_items}
use Rattle.dh_rows.specs.Calls.{IsHonest, MakesNoCommitInside}
use Rattle.dh_tables.specs.Going.{NowShowsRecords, records}
use Rattle.dh_transactions.proofs.EditingLemmas.{IsMidway}
use Rattle.dh_transactions.proofs.editing.edit_all.Given as goal

abbrev pub invariant-loop-edit : goal.invariant-loop-edit
invariant-loop-edit g l = record {
  can : (goal.iterator-loop-edit g).can_next l.edit-iterator;
  finite : (goal.iterator-loop-edit g).is_finite l.edit-iterator;
  goes : MakesNoCommitInside g.S.Store l.initial.tables l.tables;
  sees : NowShowsRecords g.S.Store l.initial.tables l.tables (records g.S.Store l.tables);
  midway : IsHonest g.S.Store l.tables
      → IsMidway l.due l.host l.fn.edits.items (into_iter_items l.edit-iterator) (records g.S.Store l.initial.tables) (records g.S.Store l.tables);
}
