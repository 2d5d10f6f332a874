use Rattle.std.proofs.Common.{inl, refl, subst}
use Rattle.dh_desk.specs.Desk.{WorldGoesBy}
use Rattle.dh_desk.proofs.Moving.{WorldGoesBy-refl}
use Rattle.dh_lines.specs.declared.lines.Order.{Order}
use Rattle.dh_control.specs.Answers.{DoesOne, importing}
use Rattle.dh_control.proofs.Whole.{one_failed}
use Rattle.dh_control.proofs.answering.do_listed.Goals as goal

pub returns-in_err-order-clause-does : goal.returns-in_err-order-clause-does
returns-in_err-order-clause-does g c =
    WorldGoesBy-refl (λ w. one_failed c.args.now w (importing c.args.host.now c.args.list) w (g.W.Sink.held c.args.sink.now) (g.W.Sink.held c.args.sink.now) c.from_residual.result c.from_residual.ensures.0 (inl refl))

pub returns-clause-does : goal.returns-clause-does
returns-clause-does g c =
    subst (λ (o : Order). WorldGoesBy g.S.Store c.args.desk.now c.do_order.new.desk (λ u v. DoesOne c.args.now u o v (g.W.Sink.held c.args.sink.now) (g.W.Sink.held c.do_order.new.sink) c.do_order.result)) c.in_ok-order.ensures c.do_order.ensures.does
