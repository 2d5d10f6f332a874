-- An answer that was joined, by what the sink below got.
use Rattle.std.proofs.Common.{◌≡◌, ◌∙◌, ℕ, true, List, Option, Some, None, Result, Ok, Err, IsErrAnd, refl, sym, ap, subst}
use Rattle.std.proofs.lemmas.Result.{err_from_is_err_and}
use Rattle.std.specs.Io.KnownBytes.{Appends, Keeps}
use Rattle.dh_world.specs.World.{World}
use Rattle.dh_http.specs.Answers.{AnswersSource, WritesAnswer, is_unread}
use Rattle.dh_http.specs.declared.fault.Done.{Done}
use Rattle.dh_http.specs.declared.fault.EngineFault.{EngineFault}
use Rattle.dh_http.specs.declared.fault.EngineFault.TheVariants as fault
use Rattle.dh_server.specs.Serving.{AnswersConnection}

-- what was kept was handed on
handed_on : (held kept now : Option (List ℕ)) (text : List ℕ) → Appends held kept text → Keeps kept now → Appends held now text
handed_on None kept now text appends keeps = tt
handed_on (Some xs) None now text appends keeps = absurd appends
handed_on (Some xs) (Some ys) None text appends keeps = absurd keeps
handed_on (Some xs) (Some ys) (Some zs) text appends keeps = keeps ∙ appends

module _ (moment : ℕ) (left held kept now : Option (List ℕ)) (before after : World) where
  pub joined : (done : Done) → WritesAnswer (AnswersSource moment left before after) held kept (Ok done) → Keeps kept now → AnswersConnection moment left held now before after (Ok done)
  joined done w keeps = (w.0, w.1, handed_on held kept now w.0 w.2 keeps)

  -- not all of it could be handed on
  pub cut : (done : Done) (n : ℕ) → WritesAnswer (AnswersSource moment left before after) held kept (Ok done) → AnswersConnection moment left held now before after (Err (fault.Write n))
  cut done n w = (done.status, w.0, w.1)

-- the engine's own fault, handed on
module _ (moment : ℕ) (left held kept now : Option (List ℕ)) (Goes : (World → World → Type 0) → Type 0)
    (weaker : (P Q : World → World → Type 0) → Goes P → ((u v : World) → P u v → Q u v) → Goes Q) where
  failed : (e : EngineFault) → Goes (λ before after. WritesAnswer (AnswersSource moment left before after) held kept (Err e))
      → (is_unread (Err e) ≡ true → (P : World → World → Type 0) → ((w : World) → P w w) → Goes P)
      → Goes (λ before after. AnswersConnection moment left held now before after (Err e))
  failed fault.Read goes unread = unread refl (λ before after. after ≡ before) (λ w. refl)
  failed fault.TooManyTurns goes unread = unread refl (λ before after. after ≡ before) (λ w. refl)
  failed (fault.Write n) goes unread =
      weaker (λ before after. WritesAnswer (AnswersSource moment left before after) held kept (Err (fault.Write n)))
      (λ before after. AnswersConnection moment left held now before after (Err (fault.Write n))) goes (λ u v w. (w.0, w.1, w.2))

  pub told_on : (e : EngineFault) (r : Result Done EngineFault) → IsErrAnd r (λ x. x ≡ e)
      → Goes (λ before after. WritesAnswer (AnswersSource moment left before after) held kept (Err e))
      → (is_unread (Err e) ≡ true → (P : World → World → Type 0) → ((w : World) → P w w) → Goes P)
      → Goes (λ before after. AnswersConnection moment left held now before after r)
  told_on e r is goes unread =
      let at = err_from_is_err_and r is in
      subst (λ (r : Result Done EngineFault). Goes (λ before after. AnswersConnection moment left held now before after r)) (sym (at.1 ∙ ap Err at.2)) (failed e goes unread)
