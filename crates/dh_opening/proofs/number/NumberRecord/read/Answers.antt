use Rattle.std.proofs.Common.{ap}
use Rattle.sqlite_value.specs.Order.{column}
use Rattle.dh_records.proofs.ReadingLemmas.{handed_on}
use Rattle.dh_opening.proofs.number.NumberRecord.read.Goals as goal

pub returns-in_err-number_at-clause-told : goal.returns-in_err-number_at-clause-told
returns-in_err-number_at-clause-told c y e =
    handed_on c.from_residual.result c.number_at.result c.in_err-number_at.field-0.0 c.in_err-number_at.was c.from_residual.ensures.1
    (λ none small. none (y, ap (λ r. column r 0) e, small)) c.number_at.ensures.told
