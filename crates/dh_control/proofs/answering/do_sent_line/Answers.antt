use Rattle.std.proofs.Common.{Ok, Result, inr, refl}
use Rattle.dh_desk.proofs.Moving.{WorldGoesBy-refl, WorldGoesBy-weaker}
use Rattle.dh_lines.specs.Lines.{line_in}
use Rattle.dh_script.specs.Running.{words_in}
use Rattle.dh_script.specs.declared.fault.ScriptFault.{ScriptFault}
use Rattle.dh_control.specs.declared.end.End.{End}
use Rattle.dh_script.specs.declared.fault.RunFault.{RunFault}
use Rattle.dh_control.proofs.Whole.{line_handed, line_sent}
use Rattle.dh_control.proofs.answering.do_sent_line.Goals as goal

pub returns-in_ok-do_line-in-Ok-clause-does : goal.returns-in_ok-do_line-in-Ok-clause-does
returns-in_ok-do_line-in-Ok-clause-does g c =
    let ended : Result End ScriptFault = Ok c.in_ok-do_line-in-Ok.field-0 in
    WorldGoesBy-weaker c.in_ok-do_line-in-Ok.ensures.does
    (λ u v did. line_sent c.args.now u v (g.W.Sink.held c.args.sink.now) (g.W.Sink.held c.do_line.new.sink) ended c.in-Ok.line.now c.args.sent.now c.in-Ok.ensures.cases.0 c.in-Ok.ensures.cases.1 did)

pub returns-in_err-do_line-in-Ok-clause-does : goal.returns-in_err-do_line-in-Ok-clause-does
returns-in_err-do_line-in-Ok-clause-does g c =
    WorldGoesBy-weaker c.in_err-do_line-in-Ok.ensures.does
    (λ u v did. line_sent c.args.now u v (g.W.Sink.held c.args.sink.now) (g.W.Sink.held c.do_line.new.sink) c.from_residual.result c.in-Ok.line.now c.args.sent.now c.in-Ok.ensures.cases.0 c.in-Ok.ensures.cases.1
    (line_handed {E = RunFault} c.args.now u (line_in (words_in c.in-Ok.line.now)) v (g.W.Sink.held c.args.sink.now) (g.W.Sink.held c.do_line.new.sink) c.in_err-do_line-in-Ok.field-0.0 c.from_residual.result c.from_residual.ensures.0 did))

pub returns-in-Err-clause-does : goal.returns-in-Err-clause-does
returns-in-Err-clause-does g c = WorldGoesBy-refl (λ w. inr (c.in-Err.ensures.cases.0, (refl, refl, refl)))
