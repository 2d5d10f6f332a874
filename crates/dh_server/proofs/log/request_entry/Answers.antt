use Rattle.std.proofs.Common.{refl}
use Rattle.dh_server.proofs.log.request_entry.Goals as goal

pub returns : goal.returns
returns c = (
  record { level = c.level_of.result; outcome = c.outcome_of.result; reason = c.reason_of.result; line = c.first_line.result; host = c.host.result },
  c.args.measured,
  c.level_of.ensures,
  c.outcome_of.ensures,
  c.first_line.ensures.line,
  refl,
  c.of_request.ensures,
)
