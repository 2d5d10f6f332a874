use Rattle.std.proofs.Common.{take}
use Rattle.std.specs.Option.{option_copied}
use Rattle.dh_records.specs.Constraints.{RiseBySlug}
use Rattle.dh_class_names.specs.Highest.{IsHighest, IsPublic, IsSeenWith}
use Rattle.dh_class_names.proofs.highest.granted_top.Given as goal

abbrev pub invariant-loop-grant : goal.invariant-loop-grant
invariant-loop-grant l =
    RiseBySlug l.rows → IsHighest (IsPublic l.rows) (option_copied l.public)
    → IsHighest (IsSeenWith l.rows (take l.grant-index l.grants)) (option_copied l.best)
