use Rattle.std.proofs.Common.{[], ◌∷◌, of_calls, refl, subst}
use Rattle.dh_http.proofs.Moving.{WorldGoesBy-refl, WorldGoesBy-weaker}
use Rattle.dh_server.specs.Serving.{CountsExactly, messages_in}
use Rattle.dh_log.proofs.Many.{tells_one}
use Rattle.dh_server.proofs.Calling.{lost_turn, turn_at}
use Rattle.dh_server.proofs.Stepping.{hands_none}
use Rattle.dh_server.proofs.serving.serve_next.Goals as goal

pub returns-in-Some-clause-hears : goal.returns-in-Some-clause-hears
returns-in-Some-clause-hears g c = (
  _,
  subst (λ it. CountsExactly (g.N.Listen.messages c.args.listener.now) (g.N.Listen.messages c.accept-came.new.self) (messages_in it)) c.in-Some.is c.accept-came.ensures.gives,
  c.answer_came.ensures.hears,
)

pub returns-in-None-clause-hears : goal.returns-in-None-clause-hears
returns-in-None-clause-hears g c =
    hands_none (g.N.Listen.messages c.args.listener.now) (g.N.Listen.messages c.accept-came.new.self) (g.K.Control.handed c.args.control.now)
    (subst (λ it. CountsExactly (g.N.Listen.messages c.args.listener.now) (g.N.Listen.messages c.accept-came.new.self) (messages_in it)) c.in-None.is c.accept-came.ensures.gives)

pub returns-in-Some-clause-clocked : goal.returns-in-Some-clause-clocked
returns-in-Some-clause-clocked g c = (c.clock-now.result ∷ [], (c.clock-now.new.self, search of_calls, refl), refl)

pub returns-in-None-clause-clocked : goal.returns-in-None-clause-clocked
returns-in-None-clause-clocked g c = (c.clock-now.result ∷ [], (c.clock-now.new.self, search of_calls, refl), refl)

pub returns-in-Some-clause-turn : goal.returns-in-Some-clause-turn
returns-in-Some-clause-turn g c =
    WorldGoesBy-weaker c.answer_came.ensures.turn
    (λ u v. turn_at (λ moment. goal.C-step g c.args.clock.now moment c.clock-now.new.self) g.K.Control.does c.clock-now.result c.answer_came.result u v (search of_calls))

pub returns-in-None-clause-turn : goal.returns-in-None-clause-turn
returns-in-None-clause-turn g c =
    WorldGoesBy-refl (lost_turn (λ moment. goal.C-step g c.args.clock.now moment c.clock-now.new.self) g.K.Control.does c.clock-now.result (search of_calls))

pub returns-in-None-clause-tells : goal.returns-in-None-clause-tells
returns-in-None-clause-tells g c = tells_one g.L.Write.contents c.args.log.now c.tell.new.self c.of_none.result c.tell.ensures
