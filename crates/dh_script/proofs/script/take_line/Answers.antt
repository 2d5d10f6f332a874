use Rattle.std.proofs.Common.{◌∙◌, List, ap, rules, subst}
use Rattle.dh_desk.proofs.Moving.{WorldGoesBy-refl, WorldGoesBy-weaker}
use Rattle.dh_script.specs.Running.{RunsSome, words_seen}
use Rattle.dh_script.proofs.RunLemmas.{some_none, but_all, but_err, but_waits}
use Rattle.dh_script.proofs.script.take_line.Goals as goal
use Rattle.dh_world.specs.World.{Text}

pub returns-in_err-add_line-clause-ran : goal.returns-in_err-add_line-clause-ran
returns-in_err-add_line-clause-ran g c =
    WorldGoesBy-refl (λ w. but_err c.args.now w _ w _ _ _ c.from_residual.result c.from_residual.ensures.0 (some_none c.args.now w _ _))

pub returns-then-len-lt-BATCH-clause-ran : goal.returns-then-len-lt-BATCH-clause-ran
returns-then-len-lt-BATCH-clause-ran g c = WorldGoesBy-refl (λ w. but_waits c.args.now w _ c.add_line.new.batch.items _ c.in_ok-add_line.ensures)

pub returns-in_err-run_batch-clause-ran : goal.returns-in_err-run_batch-clause-ran
returns-in_err-run_batch-clause-ran g c =
    WorldGoesBy-weaker c.in_err-run_batch.ensures.ran
    (λ u v some. but_err c.args.now u _ v _ _ _ c.from_residual-in_err-run_batch.result c.from_residual-in_err-run_batch.ensures.0
    (subst (λ (lines : List (List Text)). RunsSome c.args.now u lines v (g.W.Sink.held c.args.sink.now) (g.W.Sink.held c.run_batch.new.sink)) (ap words_seen c.as_slice.ensures.value ∙ c.in_ok-add_line.ensures) some))

pub returns-clause-ran : goal.returns-clause-ran
returns-clause-ran g c =
    WorldGoesBy-weaker c.in_ok-run_batch.ensures.ran
    (λ u v into. but_all c.args.now u v _ _ c.as_slice.result.now c.clear.new.self.items _ (ap words_seen c.as_slice.ensures.value ∙ c.in_ok-add_line.ensures) (search rules) into)
