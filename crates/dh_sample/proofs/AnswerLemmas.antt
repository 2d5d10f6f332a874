-- What is written over the sample, from what the engine writes.
use Rattle.std.proofs.Common.{◌≡◌, ℕ, false, List, Option, Some, Result, refl, sym, subst}
use Rattle.dh_world.specs.World.{World}
use Rattle.dh_http.specs.Answers as engine
use Rattle.dh_http.specs.Commands.{unavailable}
use Rattle.dh_http.specs.declared.fault.Done.{Done}
use Rattle.dh_http.specs.declared.fault.EngineFault.{EngineFault}
use Rattle.dh_http.proofs.Writing.{writes_as, unread_answered}
use Rattle.dh_sample.specs.SampleWorld.{sample_world}
use Rattle.dh_sample.specs.Answer.{AnswersSample, WritesTold}

-- a desk whose world is the sample answered
pub sample_answered : (moment : ℕ) (before after : World) (left held now : Option (List ℕ)) (r : Result Done EngineFault) (told : Option (Result Done EngineFault)) → told ≡ Some r → before ≡ sample_world → engine.WritesAnswer (engine.AnswersSource moment left before after) held now r → WritesTold (AnswersSample moment left) held now told
sample_answered moment before after left held now r told is same w =
    let over = subst (λ v. engine.WritesAnswer (engine.AnswersSource moment left v after) held now r) same w in
    subst (WritesTold (AnswersSample moment left) held now) (sym is) (writes_as (engine.AnswersSource moment left sample_world after) (AnswersSample moment left) held now r (λ s t a. (after, a)) over)

-- no desk could be made out of memory
pub unmade_answered : (moment : ℕ) (left held now : Option (List ℕ)) (r : Result Done EngineFault) (told : Option (Result Done EngineFault)) → told ≡ Some r → engine.WritesAnswer (engine.IsWritten unavailable false) held now r → WritesTold (AnswersSample moment left) held now told
unmade_answered moment left held now r told is w =
    sample_answered moment sample_world sample_world left held now r told is refl (unread_answered moment sample_world left held now r w)
