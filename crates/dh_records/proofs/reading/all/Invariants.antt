use Rattle.std.proofs.Common.{◌≡◌, List, map, take}
use Rattle.dh_records.proofs.reading.all.Given as goal

abbrev pub invariant-loop-row : goal.invariant-loop-row
invariant-loop-row g l = (xs : List g.row.R.Denot) → l.rows ≡ map g.R.Record.coding.encode xs → l.found.items ≡ take l.row-index xs
