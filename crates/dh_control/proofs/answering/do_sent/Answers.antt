use Rattle.std.proofs.Common.{◌≡◌, Ok, Result, inl, inr, map, refl, rules, string_bytes, subst}
use Rattle.std.specs.List.{slice_split}
use Rattle.dh_desk.proofs.Moving.{WorldGoesBy-refl, WorldGoesBy-weaker}
use Rattle.dh_lines.specs.Lines.{line_in}
use Rattle.dh_script.specs.declared.fault.RunFault.{RunFault}
use Rattle.dh_script.specs.declared.fault.ScriptFault.{ScriptFault}
use Rattle.dh_control.specs.Answers.{DoesWords}
use Rattle.dh_control.specs.Messages.{is_nul}
use Rattle.dh_control.specs.declared.end.End.{End}
use Rattle.dh_control.proofs.Whole.{nothing_failed, words_failed, words_ended}
use Rattle.dh_control.proofs.answering.do_sent.Goals as goal

pub returns-in_default-clause-does : goal.returns-in_default-clause-does
returns-in_default-clause-does g c = WorldGoesBy-refl (λ w. inr (c.in_default.ensures.cases.0, (refl, refl, refl)))

pub returns-in_err-words-clause-does : goal.returns-in_err-words-clause-does
returns-in_err-words-clause-does g c =
    WorldGoesBy-refl (λ w. inl (c.in-Ok.ensures.cases.1, nothing_failed c.args.now w _ _ _ c.from_residual.result c.from_residual.ensures.0))

pub returns-in_err-do_words-clause-does : goal.returns-in_err-do_words-clause-does
returns-in_err-do_words-clause-does g c =
    let same : map string_bytes c.as_slice.result.now ≡ slice_split is_nul c.args.sent.now = search rules in
    WorldGoesBy-weaker c.in_err-do_words.ensures.does
    (λ u v did. inl (
      c.in-Ok.ensures.cases.1,
      subst (λ words. DoesWords c.args.now u (line_in words) v (g.W.Sink.held c.args.sink.now) (g.W.Sink.held c.do_words.new.sink) c.from_residual-in_err-do_words.result) same
          (words_failed c.args.now u (line_in (map string_bytes c.as_slice.result.now)) v (g.W.Sink.held c.args.sink.now) (g.W.Sink.held c.do_words.new.sink) _ c.from_residual-in_err-do_words.result c.from_residual-in_err-do_words.ensures.0 did),
    ))

pub returns-clause-does : goal.returns-clause-does
returns-clause-does g c =
    let same : map string_bytes c.as_slice.result.now ≡ slice_split is_nul c.args.sent.now = search rules in
    let ended : Result End ScriptFault = Ok c.in_ok-do_words.field-0 in
    WorldGoesBy-weaker c.in_ok-do_words.ensures.does
    (λ u v did. inl (
      c.in-Ok.ensures.cases.1,
      subst (λ words. DoesWords {E = ScriptFault} c.args.now u (line_in words) v (g.W.Sink.held c.args.sink.now) (g.W.Sink.held c.do_words.new.sink) ended) same
          (words_ended RunFault ScriptFault c.args.now u (line_in (map string_bytes c.as_slice.result.now)) v (g.W.Sink.held c.args.sink.now) (g.W.Sink.held c.do_words.new.sink) c.in_ok-do_words.field-0 did),
    ))
