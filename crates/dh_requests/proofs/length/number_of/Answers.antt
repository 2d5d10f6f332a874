use Rattle.dh_requests.proofs.Numbers.{too_large}
use Rattle.dh_requests.proofs.length.number_of.Goals as goal

pub returns-in-Err : goal.returns-in-Err
returns-in-Err c = too_large c.args.digits.now c.in-Err.field-0 c.requires c.in-Err.ensures.value.0
