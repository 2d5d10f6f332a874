use Rattle.dh_desk.proofs.Moving.{WorldGoesBy-weaker}
use Rattle.dh_http.proofs.Writing.{reply_lost}
use Rattle.dh_http.proofs.answering.make_answer.Goals as goal

pub returns-in_err-reply-clause-makes : goal.returns-in_err-reply-clause-makes
returns-in_err-reply-clause-makes g c = rw c.from_residual.ensures c.in_err-reply.ensures.makes

pub returns-in_err-head-clause-makes : goal.returns-in_err-head-clause-makes
returns-in_err-head-clause-makes g c =
    rw c.from_residual-in_err-head.ensures
    (WorldGoesBy-weaker c.in_ok-reply.ensures.makes (λ u v. reply_lost c.args.moment u v c.args.request.now c.in_ok-reply.reply))
