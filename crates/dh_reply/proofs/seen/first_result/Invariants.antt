use Rattle.std.proofs.Common.{◌≡◌, drop}
use Rattle.dh_redirects.specs.FirstResult.{first_result}
use Rattle.dh_reply.proofs.seen.first_result.Given as goal

abbrev pub invariant-loop-redirect : goal.invariant-loop-redirect
invariant-loop-redirect l = first_result l.forced (drop l.redirect-index l.redirects) l.asked ≡ first_result l.forced l.redirects l.asked
