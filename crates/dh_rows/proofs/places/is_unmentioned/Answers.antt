use Rattle.dh_rows.proofs.Names.{unmentioned}
use Rattle.dh_rows.proofs.places.is_unmentioned.Goals as goal

pub returns : goal.returns
returns c = unmentioned c.tables_spare.result c.args.schema.now c.args.name.now c.tables_spare.ensures
