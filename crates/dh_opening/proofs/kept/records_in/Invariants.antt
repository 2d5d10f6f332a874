use Rattle.std.proofs.Common.{◌≡◌, ◌++◌, length, map}
use Rattle.std.specs.List.{AllByRecursion}
use Rattle.std.specs.Vec.Iter.{into_iter_items, into_iter_len}
use Rattle.dh_opening.proofs.kept.records_in.Given as goal

abbrev pub invariant-loop-row : goal.invariant-loop-row
invariant-loop-row g l = (l.yielded ++ into_iter_items l.row-iterator ≡ into_iter_items l.initial.row-iterator)
    × (l.yielded ≡ map g.R.Record.coding.encode l.found.items) × AllByRecursion g.R.Record.typed l.found.items
    × (into_iter_len l.row-iterator ≡ length (into_iter_items l.row-iterator))
