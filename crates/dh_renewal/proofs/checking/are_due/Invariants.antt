use Rattle.std.proofs.Common.{◌≡◌, drop}
use Rattle.dh_rows.specs.Calls.{IsHonest, MakesNoCommit}
use Rattle.dh_records.specs.Constraints.{AreSound}
use Rattle.dh_tables.specs.Going.{NowShowsRecords, records}
use Rattle.dh_renewal.specs.Standing.{AreAliasesDue}
use Rattle.dh_renewal.proofs.checking.are_due.Given as goal

-- the rows are due where the rest is what is due of the other projects
abbrev pub invariant-loop-project : goal.invariant-loop-project
invariant-loop-project g l = record {
  goes : MakesNoCommit g.S.Store l.initial.tables l.tables;
  sees : NowShowsRecords g.S.Store l.initial.tables l.tables (records g.S.Store l.initial.tables);
  due : IsHonest g.S.Store l.tables → AreSound (records g.S.Store l.initial.tables)
      → AreAliasesDue (records g.S.Store l.initial.tables) (drop l.project-index l.projects) l.rest
      → AreAliasesDue (records g.S.Store l.initial.tables) l.projects l.rows;
}
