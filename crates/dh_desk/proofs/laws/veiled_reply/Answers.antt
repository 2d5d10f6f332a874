use Rattle.std.proofs.Common.{ap}
use Rattle.dh_reply.specs.Replies.{reply_to}
use Rattle.dh_world.proofs.VeilLemmas as veiling
use Rattle.dh_desk.proofs.laws.veiled_reply.Goals as goal

pub returns : goal.returns
returns c w host caller path query = ap (λ p. reply_to p path query) (veiling.veil_law w host caller)
