use Rattle.dh_http.proofs.Moving.{WorldGoesBy-weaker}
use Rattle.dh_log.proofs.Many.{tells_one}
use Rattle.dh_server.proofs.serving.answer_control.Goals as goal

pub returns-clause-moves : goal.returns-clause-moves
returns-clause-moves g c = WorldGoesBy-weaker c.answer_order.ensures.moves (λ u v does. (_, does, c.answer_order.ensures.whole))

pub returns-clause-tells : goal.returns-clause-tells
returns-clause-tells g c =
    let told = c.answer_order.ensures.tells in
    tells_one g.L.Write.contents c.args.log.now c.answer_order.new.log told.1 told.4
