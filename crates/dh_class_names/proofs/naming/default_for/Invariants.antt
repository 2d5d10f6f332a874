use Rattle.std.proofs.Common.{◌≡◌, map, drop}
use Rattle.dh_world.specs.Seen.{default_of}
use Rattle.dh_records.specs.Constraints.{RiseBySlug}
use Rattle.dh_class_names.specs.Rows.{stands_by}
use Rattle.dh_class_names.proofs.naming.default_for.Given as goal

-- the defaults before this one stand for no version
abbrev pub invariant-loop-pick : goal.invariant-loop-pick
invariant-loop-pick l =
    RiseBySlug l.rows
    → default_of (stands_by l.rows l.grants l.latest l.stable) (map (λ d. d.name) l.picks)
    ≡ default_of (stands_by l.rows l.grants l.latest l.stable) (map (λ d. d.name) (drop l.pick-index l.picks))
