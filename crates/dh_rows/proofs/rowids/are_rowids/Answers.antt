use Rattle.std.proofs.Common.{rules, arith}
use Rattle.dh_rows.proofs.RowidLemmas.{told_true, told_false, all_seen, not_above}
use Rattle.dh_rows.proofs.rowids.are_rowids.Goals as goal

pub returns-then-not-is_above : goal.returns-then-not-is_above
returns-then-not-is_above c =
    told_false c.args.rows.now
    (not_above c.args.rows.now c.loop-row.row-index c.loop-row.last c.loop-row.invariant c.row-item.result (omega arith) c.row-item.is c.in-Some.id (search rules) (search rules))

pub returns : goal.returns
returns c = told_true c.args.rows.now (all_seen c.args.rows.now c.loop-row.row-index c.loop-row.last c.loop-row.invariant (omega arith))
