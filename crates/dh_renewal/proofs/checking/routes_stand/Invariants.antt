use Rattle.std.proofs.Common.{take}
use Rattle.std.specs.List.{AllByRecursion}
use Rattle.dh_rows.specs.Calls.{IsHonest, MakesNoCommit}
use Rattle.dh_tables.specs.Going.{NowShowsRecords, records}
use Rattle.dh_renewal.specs.Standing.{RoutesStand}
use Rattle.dh_renewal.proofs.checking.routes_stand.Given as goal

abbrev pub invariant-loop-project : goal.invariant-loop-project
invariant-loop-project g l = record {
  goes : MakesNoCommit g.S.Store l.initial.tables l.tables;
  sees : NowShowsRecords g.S.Store l.initial.tables l.tables (records g.S.Store l.initial.tables);
  stand : IsHonest g.S.Store l.tables → AllByRecursion (λ r. RoutesStand (records g.S.Store l.initial.tables) r.host) (take l.project-index l.projects);
}
