use Rattle.std.proofs.Common.{rules}
use Rattle.dh_http.proofs.Moving.{WorldGoesBy-refl, WorldGoesBy-weaker}
use Rattle.dh_sample.proofs.filling.store_pages.Goals as goal

pub returns-in_err-upload_command : goal.returns-in_err-upload_command
returns-in_err-upload_command g c = record { step = WorldGoesBy-refl (λ w. search rules) }

pub returns : goal.returns
returns g c = record { step = WorldGoesBy-weaker c.perform.ensures.step (λ u v step. search rules) }
