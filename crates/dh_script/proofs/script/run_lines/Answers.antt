use Rattle.std.proofs.Common.{map, subst}
use Rattle.std.proofs.lemmas.Iterator.Splits.{YieldsList-from_lines}
use Rattle.std.proofs.lemmas.Iterator.Consumers.{YieldsList-end, YieldsList-so_far, YieldsList-turn}
use Rattle.std.specs.Str.Lines.{lines}
use Rattle.dh_desk.proofs.Moving.{WorldGoesBy-refl, WorldGoesBy-trans}
use Rattle.dh_script.specs.Running.{Ran, words_seen}
use Rattle.dh_script.proofs.RunLemmas.{but_none, but_on, but_some, but_ends, ran_err}
use Rattle.dh_script.proofs.script.run_lines.Goals as goal

pub loop-line-init : goal.loop-line-init
loop-line-init g c = record {
  fine = c.requires;
  ran = WorldGoesBy-refl (λ w. but_none c.args.now w _ c.new-batch.result.items c.new-batch.ensures.items);
}

pub loop-line-preserved : goal.loop-line-preserved
loop-line-preserved g c = record {
  fine = c.in_ok-take_line.ensures.broken;
  ran =
      WorldGoesBy-trans c.loop-line.invariant.ran c.in_ok-take_line.ensures.ran
      (λ u v w. but_on c.args.now (λ x. x.now) u c.loop-line.yielded v c.in-Some.line w _ _ _ _ _);
}

pub returns-in_err-take_line-clause-ran : goal.returns-in_err-take_line-clause-ran
returns-in_err-take_line-clause-ran g c =
    let road = YieldsList-from_lines c.args.text.now cc in
    let front = YieldsList-so_far road c.loop-line.yielded _ c.loop-line.yielded_by in
    let turn = YieldsList-turn road c.loop-line.yielded _ c.loop-line.yielded_by _ _ c.in-Some.line c.in-Some.is c.next.ensures.steps in
    WorldGoesBy-trans c.loop-line.invariant.ran c.in_err-take_line.ensures.ran
    (λ u v w ran some. ran_err c.args.now u _ w _ _ c.from_residual.result c.from_residual.ensures.0
    (but_some c.args.now u (map (λ x. x.now) c.loop-line.yielded) v c.in-Some.line.now w _ _ _ _ (lines c.args.text.now) _ ran some front turn.0 turn.1))

pub returns-clause-ran : goal.returns-clause-ran
returns-clause-ran g c =
    let all = YieldsList-end (YieldsList-from_lines c.args.text.now cc) c.loop-line.yielded _ c.loop-line.yielded_by _ _ c.in-None.is c.next.ensures.steps in
    WorldGoesBy-trans c.loop-line.invariant.ran c.run_batch.ensures.ran
    (λ u v w ran last. but_ends c.args.now u _ v w _ _ _ _ (lines c.args.text.now) c.run_batch.result ran
    (subst (λ xs. Ran c.args.now v (words_seen xs) w (g.W.Sink.held c.loop-line.sink) (g.W.Sink.held c.run_batch.new.sink) c.run_batch.result) c.as_slice.ensures.value last) all.0)
