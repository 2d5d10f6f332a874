use Rattle.std.proofs.Common.{◌++◌, ◌∙◌, ap, inr, string_bytes, arith}
use Rattle.dh_desk.proofs.Moving.{WorldGoesBy-weaker}
use Rattle.dh_script.proofs.RunLemmas.{some_lost, line_put, ran_err}
use Rattle.dh_script.proofs.script.run_words.Goals as goal

pub returns-in_err-printed-clause-ran : goal.returns-in_err-printed-clause-ran
returns-in_err-printed-clause-ran g c =
    WorldGoesBy-weaker c.in_err-printed.ensures.may
    (λ u v may. ran_err c.args.now u _ v _ _ c.from_residual.result c.from_residual.ensures.0 (some_lost c.args.now u _ v _ may))

pub returns-in_err-push-clause-ran : goal.returns-in_err-push-clause-ran
returns-in_err-push-clause-ran g c =
    WorldGoesBy-weaker c.in_ok-printed.ensures.does
    (λ u v did. ran_err c.args.now u _ v _ _ c.from_residual-in_err-push.result c.from_residual-in_err-push.ensures.0 (some_lost c.args.now u _ v _ (inr (string_bytes c.in_ok-printed.printed.text, did))))

pub returns-clause-ran : goal.returns-clause-ran
returns-clause-ran g c =
    WorldGoesBy-weaker c.in_ok-printed.ensures.does
    (λ u v did. line_put c.args.now u _ v (string_bytes c.in_ok-printed.printed.text) c.as_bytes.result.now _ _ c.put_all.result c.map_err.result did
    (c.as_bytes.ensures.value ∙ c.in_ok-push.ensures.bytes ∙ ap (λ t. string_bytes c.in_ok-printed.printed.text ++ t) (c.in_ok-push.ensures.ascii (omega arith)))
    c.put_all.ensures.ok c.put_all.ensures.err c.map_err.ensures.variant)
