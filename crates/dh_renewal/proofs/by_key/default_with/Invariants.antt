use Rattle.std.proofs.Common.{◌≡◌, map, drop}
use Rattle.dh_rows.specs.Calls.{IsHonest, MakesNoCommit}
use Rattle.dh_tables.specs.Going.{NowShowsRecords, records}
use Rattle.dh_world.specs.Seen.{default_of}
use Rattle.dh_class_names.specs.Rows.{stands_by}
use Rattle.dh_renewal.specs.ByKey.{versions_at}
use Rattle.dh_renewal.proofs.by_key.default_with.Given as goal

-- the defaults before this one stand for no version
abbrev pub invariant-loop-pick : goal.invariant-loop-pick
invariant-loop-pick g l = record {
  goes : MakesNoCommit g.S.Store l.initial.tables l.tables;
  sees : NowShowsRecords g.S.Store l.initial.tables l.tables (records g.S.Store l.initial.tables);
  passed : IsHonest g.S.Store l.tables
      → default_of (stands_by (versions_at l.host (records g.S.Store l.initial.tables)) l.grants l.latest l.stable) (map (λ d. d.name) l.picks)
      ≡ default_of (stands_by (versions_at l.host (records g.S.Store l.initial.tables)) l.grants l.latest l.stable) (map (λ d. d.name) (drop l.pick-index l.picks));
}
