use Rattle.std.proofs.Common.{refl}
use Rattle.dh_desk.proofs.Moving.{WorldGoesBy-refl, WorldGoesBy-weaker}
use Rattle.dh_control.proofs.Whole.{import_none, import_sent, import_unsent}
use Rattle.dh_control.proofs.answering.do_import.Goals as goal

pub returns-in_default-clause-does : goal.returns-in_default-clause-does
returns-in_default-clause-does g c =
    WorldGoesBy-refl (λ w. import_none c.args.now w w (g.W.Sink.held c.args.sink.now) (g.W.Sink.held c.args.sink.now) _ c.args.sent.now c.in_default.ensures (refl, refl, refl))

pub returns-in-Ok-clause-does : goal.returns-in-Ok-clause-does
returns-in-Ok-clause-does g c =
    WorldGoesBy-weaker c.do_list.ensures.does
    (λ u v did. import_sent c.args.now u v (g.W.Sink.held c.args.sink.now) (g.W.Sink.held c.do_list.new.sink) c.do_list.result c.args.sent.now c.in-Some.host.now c.in-Some.list.now c.in-Ok.host.now c.in-Some.ensures
    c.in-Ok.ensures.cases.0 c.in-Ok.ensures.cases.1 did)

pub returns-in-Err-clause-does : goal.returns-in-Err-clause-does
returns-in-Err-clause-does g c =
    WorldGoesBy-refl (λ w. import_unsent c.args.now w w (g.W.Sink.held c.args.sink.now) (g.W.Sink.held c.args.sink.now) _ c.args.sent.now c.in-Some.host.now c.in-Some.list.now c.in-Some.ensures c.in-Err.ensures.cases.0 (refl, refl, refl))
