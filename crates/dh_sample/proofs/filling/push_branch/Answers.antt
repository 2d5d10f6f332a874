use Rattle.std.proofs.Common.{rules}
use Rattle.dh_http.proofs.Moving.{WorldGoesBy-refl, WorldGoesBy-weaker}
use Rattle.dh_sample.proofs.filling.push_branch.Goals as goal

pub returns-in_err-push_command : goal.returns-in_err-push_command
returns-in_err-push_command g c = record { step = WorldGoesBy-refl (λ w. search rules) }

pub returns : goal.returns
returns g c = record { step = WorldGoesBy-weaker c.perform.ensures.step (λ u v step. search rules) }
