use Rattle.std.proofs.Common.{ne_eqb, arith}
use Rattle.dh_rows.proofs.ShapeLemmas.{own_indexes, not_as_many, fails}
use Rattle.dh_rows.proofs.table_shape.has_own_indexes.Goals as goal

pub returns-then-count_on-min : goal.returns-then-count_on-min
returns-then-count_on-min c = own_indexes c.args.places.now c.args.tree c.args.schema.now.indexes (omega arith) c.all_keys.result c.all_keys.ensures

pub returns-else-count_on-min : goal.returns-else-count_on-min
returns-else-count_on-min c = fails _ (ne_eqb _ _ c.if-count_on-min.false) (not_as_many c.args.places.now c.args.tree c.args.schema.now.indexes (λ same. c.if-count_on-min.false (omega arith)))
