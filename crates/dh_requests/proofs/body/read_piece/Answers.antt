use Rattle.dh_requests.proofs.Bodies.{more_is_piece}
use Rattle.dh_requests.proofs.body.read_piece.Goals as goal

pub returns-clause-adds : goal.returns-clause-adds
returns-clause-adds g c = more_is_piece _ _ _ _ _ _ c.requires.some c.more.ensures.adds
