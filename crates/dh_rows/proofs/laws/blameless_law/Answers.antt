use Rattle.dh_rows.proofs.Blameless.{blameless}
use Rattle.dh_rows.proofs.laws.blameless_law.Goals as goal

pub returns : goal.returns
returns c old new = blameless old new
