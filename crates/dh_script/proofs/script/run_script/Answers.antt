use Rattle.std.proofs.Common.{◌∙◌, sym}
use Rattle.dh_desk.proofs.Moving.{WorldGoesBy-refl, WorldGoesBy-weaker}
use Rattle.dh_script.proofs.ReadingLemmas.{failed_on}
use Rattle.dh_script.proofs.RunLemmas.{some_none, ran_err, script_any, script_read}
use Rattle.dh_script.proofs.script.run_script.Goals as goal

pub returns-in_err-bytes-clause-write_fault : goal.returns-in_err-bytes-clause-write_fault
returns-in_err-bytes-clause-write_fault g c = failed_on (g.W.Sink.broken c.args.sink.now) c.in_err-bytes.field-0.0 c.from_residual.result (c.requires.writer ∙ sym c.in_err-bytes.ensures.reading) c.from_residual.ensures.1

pub returns-in_err-bytes-clause-ran : goal.returns-in_err-bytes-clause-ran
returns-in_err-bytes-clause-ran g c =
    WorldGoesBy-refl (λ w. script_any c.args.now (g.R.Source.left c.args.source.now) w w _ _ c.from_residual.result (λ lines. ran_err c.args.now w _ w _ _ c.from_residual.result c.from_residual.ensures.0 (some_none c.args.now w _ _)))

pub returns-in_err-run_lines-in-Ok-clause-ran : goal.returns-in_err-run_lines-in-Ok-clause-ran
returns-in_err-run_lines-in-Ok-clause-ran g c =
    WorldGoesBy-weaker c.in_err-run_lines-in-Ok.ensures.ran
    (λ u v some. script_read c.args.now (g.R.Source.left c.args.source.now) c.in_ok-bytes.bytes.items c.as_slice.result.now c.in-Ok.text.now u v _ _ c.from_residual-in_err-run_lines-in-Ok.result c.in_ok-bytes.ensures.whole c.in-Ok.ensures.cases.0 c.as_slice.ensures.value
    (ran_err c.args.now u _ v _ _ c.from_residual-in_err-run_lines-in-Ok.result c.from_residual-in_err-run_lines-in-Ok.ensures.0 some))

pub returns-in-Ok-clause-ran : goal.returns-in-Ok-clause-ran
returns-in-Ok-clause-ran g c =
    WorldGoesBy-weaker c.in_ok-run_lines-in-Ok.ensures.ran
    (λ u v. script_read c.args.now (g.R.Source.left c.args.source.now) c.in_ok-bytes.bytes.items c.as_slice.result.now c.in-Ok.text.now u v _ _ _ c.in_ok-bytes.ensures.whole c.in-Ok.ensures.cases.0 c.as_slice.ensures.value)

pub returns-clause-ran : goal.returns-clause-ran
returns-clause-ran g c =
    WorldGoesBy-refl (λ w. script_any c.args.now (g.R.Source.left c.args.source.now) w w _ _ _ (λ lines. some_none c.args.now w _ _))
