use Rattle.std.proofs.Common.{rules}
use Rattle.dh_desk.proofs.Moving.{WorldGoesBy-refl, WorldGoesBy-weaker}
use Rattle.dh_control.proofs.Whole.{nothing_done}
use Rattle.dh_control.proofs.answering.do_words.Goals as goal

pub returns-in-Ok-clause-does : goal.returns-in-Ok-clause-does
returns-in-Ok-clause-does g c = WorldGoesBy-weaker c.do_order.ensures.does (λ u v did. search rules)

pub returns-in-Err-Usage-clause-does : goal.returns-in-Err-Usage-clause-does
returns-in-Err-Usage-clause-does g c = WorldGoesBy-refl (λ w. search rules)

pub returns-in-Err-Memory-clause-does : goal.returns-in-Err-Memory-clause-does
returns-in-Err-Memory-clause-does g c =
    WorldGoesBy-refl (λ w. nothing_done c.args.now w _ (g.W.Sink.held c.args.sink.now) (g.W.Sink.held c.args.sink.now) _)
