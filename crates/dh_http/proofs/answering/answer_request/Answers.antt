use Rattle.dh_desk.proofs.Moving.{WorldGoesBy-weaker}
use Rattle.dh_http.proofs.Writing.{made_answered, unmade_answered}
use Rattle.dh_http.proofs.answering.answer_request.Goals as goal

pub returns-in-Some-clause-writes : goal.returns-in-Some-clause-writes
returns-in-Some-clause-writes g c =
    WorldGoesBy-weaker c.in-Some.ensures.makes
    (λ u v it. made_answered c.args.moment u v c.args.request.now c.in-Some.reply c.is_bodiless.result _ _ c.send_reply.result it c.is_bodiless.ensures c.send_reply.ensures.writes)

pub returns-in-None-clause-writes : goal.returns-in-None-clause-writes
returns-in-None-clause-writes g c =
    WorldGoesBy-weaker c.in-None.ensures.makes
    (λ u v it. unmade_answered c.args.moment u v c.args.request.now c.is_bodiless-in-None.result _ _ c.answer_unavailable.result it c.is_bodiless-in-None.ensures c.answer_unavailable.ensures.writes)
