use Rattle.std.proofs.Common.{◌≡◌, None, drop}
use Rattle.dh_rows.proofs.RowidLemmas.{rise_from}
use Rattle.dh_rows.proofs.rowids.are_rowids.Given as goal

abbrev pub invariant-loop-row : goal.invariant-loop-row
invariant-loop-row l = rise_from None l.rows ≡ rise_from l.last (drop l.row-index l.rows)
