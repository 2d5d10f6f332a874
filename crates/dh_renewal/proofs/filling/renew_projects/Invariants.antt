use Rattle.std.proofs.Common.{◌≡◌}
use Rattle.std.specs.Vec.Iter.{into_iter_items}
use Rattle.dh_rows.specs.Calls.{IsHonest, MakesNoCommitInside}
use Rattle.dh_tables.specs.Going.{NowShowsRecords, records}
use Rattle.dh_renewal.proofs.FillingLemmas.{Midway}
use Rattle.dh_renewal.proofs.filling.renew_projects.Given as goal

abbrev pub invariant-loop-project : goal.invariant-loop-project
invariant-loop-project g l = record {
  can : (goal.iterator-loop-project g).can_next l.project-iterator;
  finite : (goal.iterator-loop-project g).is_finite l.project-iterator;
  goes : MakesNoCommitInside g.S.Store l.initial.tables l.tables;
  sees : NowShowsRecords g.S.Store l.initial.tables l.tables (records g.S.Store l.tables);
  midway : IsHonest g.S.Store l.tables → Midway (into_iter_items l.project-iterator) (records g.S.Store l.initial.tables) (records g.S.Store l.tables);
}
