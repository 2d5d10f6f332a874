use Rattle.std.proofs.Common.{ap}
use Rattle.sqlite_value.specs.Order.{column}
use Rattle.dh_records.proofs.ReadingLemmas.{handed_on}
use Rattle.dh_records.proofs.reading.redirect_in.Goals as goal

pub returns-in_err-text_at-clause-told : goal.returns-in_err-text_at-clause-told
returns-in_err-text_at-clause-told c y e =
    handed_on c.from_residual-in_err-text_at.result c.text_at.result c.in_err-text_at.field-0.0 c.in_err-text_at.was c.from_residual-in_err-text_at.ensures.1
    (λ none typed. none (y.redirect.source, ap (λ r. column r 5) e, typed.source)) c.text_at.ensures.told

pub returns-in_err-text_at-2-clause-told : goal.returns-in_err-text_at-2-clause-told
returns-in_err-text_at-2-clause-told c y e =
    handed_on c.from_residual-in_err-text_at-2.result c.text_at-2.result c.in_err-text_at-2.field-0.0 c.in_err-text_at-2.was c.from_residual-in_err-text_at-2.ensures.1
    (λ none typed. none (y.redirect.target, ap (λ r. column r 6) e, typed.target)) c.text_at-2.ensures.told
