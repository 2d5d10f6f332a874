use Rattle.std.proofs.Common.{take}
use Rattle.dh_rows.specs.Calls.{IsHonest, MakesNoCommit}
use Rattle.dh_tables.specs.Going.{NowShowsRecords, records}
use Rattle.dh_class_names.specs.Highest.{IsHighest, IsPublic, IsSeenWith}
use Rattle.dh_renewal.specs.ByKey.{versions_at}
use Rattle.dh_renewal.proofs.stable.highest_with.Given as goal

abbrev pub invariant-loop-grant : goal.invariant-loop-grant
invariant-loop-grant g l = record {
  goes : MakesNoCommit g.S.Store l.initial.tables l.tables;
  sees : NowShowsRecords g.S.Store l.initial.tables l.tables (records g.S.Store l.initial.tables);
  highest : IsHonest g.S.Store l.tables → IsHighest (IsPublic (versions_at l.host (records g.S.Store l.initial.tables))) l.fn.public
      → IsHighest (IsSeenWith (versions_at l.host (records g.S.Store l.initial.tables)) (take l.grant-index l.grants)) l.best;
}
