use Rattle.std.proofs.Common.{◌≡◌, take}
use Rattle.dh_records.specs.Lists.{placed, route_row}
use Rattle.dh_renewal.proofs.standing.placed_rows.Given as goal

abbrev pub invariant-loop-i : goal.invariant-loop-i
invariant-loop-i l = l.rows.items ≡ placed (route_row l.host) 1 (take l.i l.routes)
