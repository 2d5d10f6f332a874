use Rattle.std.proofs.Common.{refl}
use Rattle.dh_server.proofs.log.message_entry.Goals as goal

pub returns : goal.returns
returns c = (c.args.measured, refl, c.of_message.ensures)
