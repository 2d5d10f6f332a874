use Rattle.std.proofs.Common.{Ok, Err}
use Rattle.dh_desk.proofs.Moving.{WorldGoesBy-refl, WorldGoesBy-weaker}
use Rattle.dh_control.specs.Answers.{importing}
use Rattle.dh_script.specs.declared.fault.RunFault.{RunFault}
use Rattle.dh_control.proofs.Whole.{one_handed, unlisted_does}
use Rattle.dh_control.proofs.answering.do_list.Goals as goal

pub returns-in_ok-do_listed-in-Ok-clause-does : goal.returns-in_ok-do_listed-in-Ok-clause-does
returns-in_ok-do_listed-in-Ok-clause-does g c =
    WorldGoesBy-weaker c.in_ok-do_listed-in-Ok.ensures.does (λ u v did. (Ok c.in-Ok.redirects, c.in-Ok.ensures, did))

pub returns-in_err-do_listed-in-Ok-clause-does : goal.returns-in_err-do_listed-in-Ok-clause-does
returns-in_err-do_listed-in-Ok-clause-does g c =
    WorldGoesBy-weaker c.in_err-do_listed-in-Ok.ensures.does
    (λ u v did. (
      Ok c.in-Ok.redirects,
      c.in-Ok.ensures,
      one_handed {E = RunFault} c.args.now u (importing c.args.host.now c.in-Ok.redirects) v (g.W.Sink.held c.args.sink.now) (g.W.Sink.held c.do_listed.new.sink) c.in_err-do_listed-in-Ok.field-0.0 c.from_residual.result c.from_residual.ensures.0 did,
    ))

pub returns-in-Err-clause-does : goal.returns-in-Err-clause-does
returns-in-Err-clause-does g c =
    WorldGoesBy-refl (λ w. (Err c.in-Err.fault, c.in-Err.ensures, unlisted_does c.args.now w c.args.host.now (g.W.Sink.held c.args.sink.now) c.in-Err.fault c.unlisted.result c.unlisted.ensures.ends))
