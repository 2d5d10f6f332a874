use Rattle.std.proofs.Common.{drop, subst, sym}
use Rattle.std.specs.Io.KnownBytes.{append_known}
use Rattle.dh_http.specs.Desk.{WorldGoesBy}
use Rattle.dh_http.proofs.Moving.{WorldGoesBy-refl, WorldGoesBy-weaker}
use Rattle.dh_server.proofs.Joining.{joined, cut, told_on}
use Rattle.dh_server.proofs.serving.answer_joined.Goals as goal

pub returns-in_err-done-clause-answers : goal.returns-in_err-done-clause-answers
returns-in_err-done-clause-answers g c =
    let held = append_known (g.W.Sink.held c.args.sink.now.inner) (drop c.args.sink.now.gone c.args.sink.now.kept.items) in
    let kept = append_known (g.W.Sink.held c.answer.new.sink.inner) (drop c.answer.new.sink.gone c.answer.new.sink.kept.items) in
    told_on c.args.now (g.R.Source.left c.args.source.now) held kept (g.W.Sink.held c.answer.new.sink.inner)
    (λ P. WorldGoesBy g.S.Store c.args.desk.now c.answer.new.desk P) (λ P Q goes weaker. WorldGoesBy-weaker goes weaker)
    c.in_err-done.field-0.0 c.from_residual.result c.from_residual.ensures.1 c.in_err-done.ensures.answers
    (λ is P same. subst (λ desk. WorldGoesBy g.S.Store c.args.desk.now desk P) (sym (c.in_err-done.ensures.unread is).0) (WorldGoesBy-refl same))

pub returns-in-Ok-clause-answers : goal.returns-in-Ok-clause-answers
returns-in-Ok-clause-answers g c =
    let held = append_known (g.W.Sink.held c.args.sink.now.inner) (drop c.args.sink.now.gone c.args.sink.now.kept.items) in
    let kept = append_known (g.W.Sink.held c.answer.new.sink.inner) (drop c.answer.new.sink.gone c.answer.new.sink.kept.items) in
    WorldGoesBy-weaker c.in_ok-done.ensures.answers
    (λ u v answers. joined c.args.now (g.R.Source.left c.args.source.now) held kept (g.W.Sink.held c.hand_on.new.self.inner) u v c.in_ok-done.done answers c.in-Ok.ensures.ok)

pub returns-in-Err-clause-answers : goal.returns-in-Err-clause-answers
returns-in-Err-clause-answers g c =
    let held = append_known (g.W.Sink.held c.args.sink.now.inner) (drop c.args.sink.now.gone c.args.sink.now.kept.items) in
    let kept = append_known (g.W.Sink.held c.answer.new.sink.inner) (drop c.answer.new.sink.gone c.answer.new.sink.kept.items) in
    WorldGoesBy-weaker c.in_ok-done.ensures.answers
    (λ u v. cut c.args.now (g.R.Source.left c.args.source.now) held kept (g.W.Sink.held c.hand_on.new.self.inner) u v c.in_ok-done.done c.in-Err.count)

pub returns-in_err-done-clause-noted : goal.returns-in_err-done-clause-noted
returns-in_err-done-clause-noted g c = c.in_err-done.ensures.noted

pub returns-in-Ok-clause-noted : goal.returns-in-Ok-clause-noted
returns-in-Ok-clause-noted g c = c.in_ok-done.ensures.noted

pub returns-in-Err-clause-noted : goal.returns-in-Err-clause-noted
returns-in-Err-clause-noted g c = c.in_ok-done.ensures.noted
