use Rattle.std.proofs.Common.{None, Some, refl}
use Rattle.dh_desk.proofs.Moving.{WorldGoesBy-refl, WorldGoesBy-weaker}
use Rattle.dh_control.proofs.Whole.{message_done}
use Rattle.dh_control.proofs.answering.do_message.Goals as goal

pub returns-in-Some-clause-does : goal.returns-in-Some-clause-does
returns-in-Some-clause-does g c =
    WorldGoesBy-weaker c.do_body.ensures.does (λ u v. message_done c.args.now u v _ _ c.do_body.result c.args.file.now c.args.message.now (Some c.in-Some.body.now) c.in-Some.ensures)

pub returns-in-None-clause-does : goal.returns-in-None-clause-does
returns-in-None-clause-does g c = WorldGoesBy-refl (λ w. message_done c.args.now w w _ _ _ c.args.file.now c.args.message.now None c.in-None.ensures (refl, refl, refl))
