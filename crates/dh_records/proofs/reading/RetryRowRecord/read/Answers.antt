use Rattle.std.proofs.Common.{ap}
use Rattle.sqlite_value.specs.Order.{column}
use Rattle.dh_records.proofs.ReadingLemmas.{handed_on}
use Rattle.dh_records.proofs.reading.RetryRowRecord.read.Goals as goal

pub returns-in_err-text_at-clause-told : goal.returns-in_err-text_at-clause-told
returns-in_err-text_at-clause-told c y e =
    handed_on c.from_residual-in_err-text_at.result c.text_at.result c.in_err-text_at.field-0.0 c.in_err-text_at.was c.from_residual-in_err-text_at.ensures.1
    (λ none typed. none (y.answer, ap (λ r. column r 4) e, typed.answer)) c.text_at.ensures.told
