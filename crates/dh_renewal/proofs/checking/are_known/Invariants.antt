use Rattle.std.proofs.Common.{IsTrue, take}
use Rattle.std.specs.List.{AllByRecursion, list_any}
use Rattle.dh_records.specs.Lists.{is_project}
use Rattle.dh_renewal.proofs.checking.are_known.Given as goal

abbrev pub invariant-loop-route : goal.invariant-loop-route
invariant-loop-route l = AllByRecursion (λ r. IsTrue (list_any (is_project r.host) l.projects)) (take l.route-index l.routes)
