use Rattle.std.proofs.Common.{sym}
use Rattle.dh_rows.specs.Shapes.{table_of}
use Rattle.dh_rows.proofs.ShapeLemmas.{stands_alone}
use Rattle.dh_rows.proofs.table_shape.is_table.Goals as goal

pub returns-then-is_made : goal.returns-then-is_made
returns-then-is_made c =
    stands_alone c.args.schema.now (table_of c.args.shape.now) c.in-Some.at (sym c.in-Some.ensures) c.in-Some-get.table.now (sym c.in-Some-get.ensures.value)
    (c.is_made.ensures.0 c.if-is_made.true) c.is_alone.result c.is_alone.ensures
