use Rattle.std.proofs.Common.{sym, subst}
use Rattle.dh_http.specs.Desk.{WorldGoesBy}
use Rattle.dh_log.proofs.Many.{tells_one}
use Rattle.dh_server.specs.Serving.{AnswersSome}
use Rattle.dh_server.proofs.serving.answer_stream.Goals as goal

pub returns-clause-answers : goal.returns-clause-answers
returns-clause-answers g c =
    subst (λ whole. WorldGoesBy g.S.Store c.args.desk.now c.answer_heard-result.new.desk (AnswersSome c.args.now whole)) (sym c.is_ok.ensures.value)
    c.answer_heard-result.ensures.some

pub returns-clause-tells : goal.returns-clause-tells
returns-clause-tells g c =
    let told = c.answer_heard-result.ensures.tells in
    tells_one g.L.Write.contents c.args.log.now c.answer_heard-result.new.log told.1 told.4
