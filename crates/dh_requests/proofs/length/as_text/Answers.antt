use Rattle.dh_requests.proofs.Numbers.{number_utf8}
use Rattle.dh_requests.proofs.length.as_text.Goals as goal

pub unreachable-requires : goal.unreachable-requires
unreachable-requires c = c.in-Err.ensures.cases.0 (number_utf8 c.args.digits.now c.requires)
