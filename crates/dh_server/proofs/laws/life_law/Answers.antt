use Rattle.dh_server.proofs.Living as living
use Rattle.dh_server.proofs.laws.life_law.Goals as goal

pub returns : goal.returns
returns g c = living.life_law g.K.Control.does
