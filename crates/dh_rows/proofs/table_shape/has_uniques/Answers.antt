use Rattle.std.proofs.Common.{◌≡◌, length, ap, false-eqb, arith}
use Rattle.dh_rows.proofs.ShapeLemmas.{one_key}
use Rattle.dh_rows.proofs.table_shape.has_uniques.Goals as goal

pub returns-then-not-is_empty : goal.returns-then-not-is_empty
returns-then-not-is_empty c =
    let many : length c.args.table.now.uniques ≡ 1 = omega (arith, ap length c.as_slice.ensures) in
    one_key c.args.table.now.uniques c.key-item.result c.args.places.now many (rw c.as_slice.ensures at c.key-item.is)
    (false-eqb (length c.args.places.now) 0 c.if-not-is_empty.ensures) c.eq.result (rw c.as_slice-then-not-is_empty.ensures at c.eq.ensures)
