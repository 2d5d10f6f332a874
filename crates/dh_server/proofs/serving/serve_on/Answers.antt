use Rattle.std.proofs.Common.{◌∙◌, ◌+◌, [], ◌∷◌, ap, of_calls, refl, sym, subst, true≢false, arith, rules}
use Rattle.dh_http.specs.Desk.{WorldGoesBy}
use Rattle.dh_http.proofs.Moving.{WorldGoesBy-refl, WorldGoesBy-trans, WorldGoesBy-weaker}
use Rattle.dh_log.proofs.Many.{tells_both, tells_none, tells_off}
use Rattle.dh_server.specs.Serving.{CountsExactly, HandsOn, requests_in}
use Rattle.dh_server.specs.Turns.{ServesInTurn}
use Rattle.dh_server.proofs.Calling.{request_turn}
use Rattle.dh_server.proofs.Stepping.{clock_both, counts_next, counts_none, hands_more, hands_nothing, serves_next, serves_none}
use Rattle.dh_server.proofs.serving.serve_on.Goals as goal

pub loop-asked-init : goal.loop-asked-init
loop-asked-init g c = record {
  callable = search rules;
  asks = counts_none (g.N.Listen.asked c.args.listener.now);
  clocked = ([], refl, refl);
  few = omega arith;
  some = omega arith;
  hears = hands_nothing (g.N.Listen.messages c.args.listener.now) (g.K.Control.handed c.args.control.now);
  shut = search rules;
  serves = WorldGoesBy-refl (serves_none g.K.Control.does (goal.C-step g) c.args.clock.now);
  tells = tells_none g.L.Write.contents c.args.log.now;
}

pub loop-asked-preserved : goal.loop-asked-preserved
loop-asked-preserved g c = record {
  callable = c.serve_next-whole.ensures.callable;
  asks = counts_next (g.N.Listen.asked c.args.listener.now) (g.N.Listen.asked c.loop-asked.listener) (g.N.Listen.asked c.serve_next-whole.new.listener) c.loop-asked.asked c.loop-asked.invariant.asks c.serve_next-whole.ensures.asks;
  clocked = clock_both (goal.C-step g) c.args.clock.now c.loop-asked.clock c.serve_next-whole.new.clock c.loop-asked.asked 1 c.loop-asked.invariant.clocked c.serve_next-whole.ensures.clocked;
  few = omega (arith, c.loop-asked-test.true);
  some = omega (arith, c.loop-asked.invariant.some, c.number_of-answered.ensures.few);
  hears = hands_more (g.N.Listen.messages c.args.listener.now) (g.N.Listen.messages c.loop-asked.listener) (g.N.Listen.messages c.serve_next-whole.new.listener)
      (g.K.Control.handed c.args.control.now) (g.K.Control.handed c.loop-asked.control) (g.K.Control.handed c.serve_next-whole.new.control)
      c.loop-asked.invariant.hears c.serve_next-whole.ensures.hears;
  shut = λ closed. absurd (true≢false (sym (c.loop-asked.invariant.shut closed).1 ∙ sym c.is_closed.ensures ∙ c.if-not-is_closed.true));
  serves =
      subst (λ n. WorldGoesBy g.S.Store c.args.desk.now c.serve_next-whole.new.desk (ServesInTurn (goal.C-step g) c.args.clock.now c.serve_next-whole.new.clock g.K.Control.does (c.loop-asked.asked + 1) n))
      (ap (λ n. c.loop-asked.answered + n) (sym c.number_of-answered.ensures.number))
      (WorldGoesBy-trans c.loop-asked.invariant.serves c.serve_next-whole.ensures.turn
      (serves_next g.K.Control.does (goal.C-step g) c.args.clock.now c.loop-asked.clock c.serve_next-whole.new.clock c.loop-asked.asked c.loop-asked.answered c.serve_next-whole.result));
  tells = tells_both g.L.Write.contents c.args.log.now c.loop-asked.log c.serve_next-whole.new.log c.loop-asked.asked 1 c.loop-asked.invariant.tells c.serve_next-whole.ensures.tells;
}

pub refusals-init : goal.refusals-init
refusals-init g c = record {
  callable = c.loop-asked.invariant.callable;
  asks = c.loop-asked.invariant.asks;
  clocked = c.loop-asked.invariant.clocked;
  few = c.loop-asked.invariant.few;
  some = c.loop-asked.invariant.some;
  hears = c.loop-asked.invariant.hears;
  shut = λ closed. (c.loop-asked.invariant.shut closed).0;
  all = search rules;
  serves = c.loop-asked.invariant.serves;
  tells = c.loop-asked.invariant.tells;
}

pub refusals-preserved : goal.refusals-preserved
refusals-preserved g c =
    let closed = sym c.is_closed-then-asked-count.ensures ∙ c.if-is_closed.true in
    let same = c.answer_stream-whole.ensures.closed closed in
    record {
      callable = search of_calls;
      asks = counts_next (g.N.Listen.asked c.args.listener.now) (g.N.Listen.asked c.refusals.listener) (g.N.Listen.asked c.next_post.new.listener) c.refusals.asked c.refusals.invariant.asks
          (subst (λ it. CountsExactly (g.N.Listen.asked c.refusals.listener) (g.N.Listen.asked c.next_post.new.listener) (requests_in it)) c.in-Some.is c.next_post.ensures.asks);
      clocked = clock_both (goal.C-step g) c.args.clock.now c.refusals.clock c.clock-now.new.self c.refusals.asked 1 c.refusals.invariant.clocked
          (c.clock-now.result ∷ [], (c.clock-now.new.self, search of_calls, refl), refl);
      few = omega (arith, c.refusals.invariant.few);
      some = omega (arith, c.refusals.invariant.some, c.number_of-answered-in-refusals.ensures.few);
      hears = subst (λ came. HandsOn (g.N.Listen.messages c.args.listener.now) came (g.K.Control.handed c.args.control.now) (g.K.Control.handed c.loop-asked.control))
          (sym c.next_post.ensures.same) c.refusals.invariant.hears;
      shut = λ is. let none = c.refusals.invariant.shut is in absurd (omega (arith, none));
      all = λ is. absurd (true≢false (sym closed ∙ ap (λ desk. desk.closed) (sym same) ∙ is));
      serves =
          subst (λ n. WorldGoesBy g.S.Store c.args.desk.now c.answer_stream-whole.new.desk (ServesInTurn (goal.C-step g) c.args.clock.now c.clock-now.new.self g.K.Control.does (c.refusals.asked + 1) n))
          (ap (λ n. c.refusals.answered + n) (sym c.number_of-answered-in-refusals.ensures.number))
          (WorldGoesBy-trans c.refusals.invariant.serves
          (WorldGoesBy-weaker c.answer_stream-whole.ensures.answers
          (λ u v. request_turn (λ moment. goal.C-step g c.refusals.clock moment c.clock-now.new.self) g.K.Control.does c.clock-now.result c.answer_stream-whole.result u v (search of_calls)))
          (serves_next g.K.Control.does (goal.C-step g) c.args.clock.now c.refusals.clock c.clock-now.new.self c.refusals.asked c.refusals.answered c.answer_stream-whole.result));
      tells = tells_both g.L.Write.contents c.args.log.now c.refusals.log c.answer_stream-whole.new.log c.refusals.asked 1 c.refusals.invariant.tells c.answer_stream-whole.ensures.tells;
    }

pub returns-else-asked-count-clause-off : goal.returns-else-asked-count-clause-off
returns-else-asked-count-clause-off g c = tells_off g.L.Write.contents c.args.log.now c.refusals.log c.refusals.asked c.refusals.invariant.tells

pub returns-else-is_closed-clause-off : goal.returns-else-is_closed-clause-off
returns-else-is_closed-clause-off g c = tells_off g.L.Write.contents c.args.log.now c.refusals.log c.refusals.asked c.refusals.invariant.tells

pub returns-in_default-clause-off : goal.returns-in_default-clause-off
returns-in_default-clause-off g c = tells_off g.L.Write.contents c.args.log.now c.refusals.log c.refusals.asked c.refusals.invariant.tells

pub returns-after-refusals-clause-off : goal.returns-after-refusals-clause-off
returns-after-refusals-clause-off g c = tells_off g.L.Write.contents c.args.log.now c.refusals.log c.refusals.asked c.refusals.invariant.tells
