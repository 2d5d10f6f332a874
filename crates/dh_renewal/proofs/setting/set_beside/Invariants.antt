use Rattle.std.proofs.Common.{◌≡◌, vec_len}
use Rattle.dh_rows.specs.Calls.{IsHonest, MakesNoCommitInside}
use Rattle.dh_tables.specs.Going.{NowShowsRecords, records}
use Rattle.dh_renewal.specs.Renewing.{set_all}
use Rattle.dh_renewal.specs.Standing.{AreSaid}
use Rattle.dh_renewal.proofs.setting.set_beside.Given as goal

abbrev pub invariant-loop-names : goal.invariant-loop-names
invariant-loop-names g l = record {
  goes : MakesNoCommitInside g.S.Store l.initial.tables l.tables;
  sees : NowShowsRecords g.S.Store l.initial.tables l.tables (records g.S.Store l.tables);
  is : IsHonest g.S.Store l.tables → set_all l.host l.all.items (records g.S.Store l.tables) ≡ set_all l.host l.fn.all.items (records g.S.Store l.initial.tables);
  said : IsHonest g.S.Store l.tables → AreSaid l.host l.stored l.all.items (records g.S.Store l.tables);
}

abbrev pub decreases-loop-names : goal.decreases-loop-names
decreases-loop-names g l = vec_len l.all
