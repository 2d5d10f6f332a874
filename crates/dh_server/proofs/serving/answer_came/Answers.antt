use Rattle.std.proofs.Common.{◌≡◌, ap, refl}
use Rattle.dh_http.proofs.Moving.{WorldGoesBy-weaker}
use Rattle.dh_server.specs.Serving.{is_message}
use Rattle.dh_server.proofs.Calling.{request_turn, order_turn}
use Rattle.dh_server.proofs.Stepping.{no_message, one_message}
use Rattle.dh_server.proofs.serving.answer_came.Goals as goal

pub returns-in-Request-clause-hears : goal.returns-in-Request-clause-hears
returns-in-Request-clause-hears g c = no_message (g.K.Control.handed c.args.control.now) c.args.came (ap is_message c.in-Request.is)

pub returns-in-Message-clause-hears : goal.returns-in-Message-clause-hears
returns-in-Message-clause-hears g c =
    one_message (g.K.Control.handed c.args.control.now) (g.K.Control.handed c.answer_control.new.control) c.args.came (ap is_message c.in-Message.is)
    c.answer_control.ensures.counts

pub returns-in-Request-clause-turn : goal.returns-in-Request-clause-turn
returns-in-Request-clause-turn g c =
    WorldGoesBy-weaker c.answer_stream.ensures.answers
    (λ u v. request_turn (λ moment. moment ≡ c.args.now) g.K.Control.does c.args.now c.answer_stream.result u v refl)

pub returns-in-Message-clause-turn : goal.returns-in-Message-clause-turn
returns-in-Message-clause-turn g c =
    WorldGoesBy-weaker c.answer_control.ensures.moves
    (λ u v. order_turn (λ moment. moment ≡ c.args.now) g.K.Control.does c.args.now c.answer_control.result u v refl)
