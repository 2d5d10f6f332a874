use Rattle.dh_rows.proofs.ShapeLemmas.{lone}
use Rattle.dh_rows.proofs.table_shape.is_lone.Goals as goal

pub returns : goal.returns
returns c = lone c.args.schema.now c.args.tree c.args.name.now c.all_bear.result c.all_bear.ensures
