-- Commands in turn, up to the first that is refused.
use Rattle.std.proofs.Common.{◌≡◌, ◌⊎◌, ℕ, ◌+◌, List, ◌∷◌, take, slice_get, Result, Ok, Err, refl, sym, ap, ◌∙◌, subst, add-one}
use Rattle.std.specs.Result.{IsErrAnd, result_unwrap_or}
use Rattle.std.specs.FinMap.{empty}
use Rattle.std.proofs.lemmas.Result.{err_from_is_err_and}
use Rattle.dh_world.specs.World.{World}
use Rattle.dh_world.specs.declared.answer.Answer.{Answer}
use Rattle.dh_world.specs.declared.command.Command.{Command}
use Rattle.dh_world.specs.declared.refusal.Refusal.{Refusal}
use Rattle.dh_world.specs.Step.{step, IsStep, IsSetAside}
use Rattle.dh_sample.specs.SampleWorld.{on_step, after_all, sample_commands, sample_world, DoesAll}

-- an accepted command, and then the others
after_step : (c : Command) (cs : List Command) (w next : World) (answer : Answer) (r : Result World Refusal) → step w c ≡ Ok (next, answer) → after_all cs next ≡ r → after_all (c ∷ cs) w ≡ r
after_step c cs w next answer r accepted then = ap (λ s. on_step s (after_all cs)) accepted ∙ then

-- the first command is refused
does_none : (c : Command) (cs : List Command) (w after : World) (e : Refusal) → IsStep w after c (Err e) → DoesAll (c ∷ cs) w after (Err e)
does_none c cs w after e refused = (
  0,
  record { only_those = ap Ok (sym refused.0); command = c; next = refl; why = subst (λ x. IsSetAside x c e ⊎ (step x c ≡ Err e)) (sym refused.0) refused.1 },
)

-- the first command is accepted, and then as the others do
pub does_next : (c : Command) (cs : List Command) (w next after : World) (answer : Answer) (r : Result Unit Refusal) → step w c ≡ Ok (next, answer) → DoesAll cs next after r → DoesAll (c ∷ cs) w after r
does_next c cs w next after answer (Ok done) accepted then = after_step c cs w next answer (Ok after) accepted then
does_next c cs w next after answer (Err e) accepted then =
    let done : ℕ = then.0 in
    let one_more : (n : ℕ) → c ∷ take n cs ≡ take (n + 1) (c ∷ cs) = λ n. sym (ap (λ m. take m (c ∷ cs)) (add-one n)) in (
      done + 1,
      record {
        only_those = ap (λ l. after_all l w) (sym (one_more done)) ∙ after_step c (take done cs) w next answer (Ok after) accepted then.1.only_those;
        command = then.1.command;
        next = ap (slice_get (c ∷ cs)) (add-one done) ∙ then.1.next;
        why = then.1.why;
      },
    )

-- the refusal is handed on
pub does_refused : (c : Command) (cs : List Command) (w after : World) (e : Refusal) (r : Result Unit Refusal) → IsStep w after c (Err e) → IsErrAnd r (λ x. x ≡ e) → DoesAll (c ∷ cs) w after r
does_refused c cs w after e r refused is =
    let at = err_from_is_err_and r is in
    subst (DoesAll (c ∷ cs) w after) (sym (at.1 ∙ ap Err at.2)) (does_none c cs w after e refused)

-- what fills an empty world makes the sample's
pub filled : (before after : World) → before ≡ empty → after_all sample_commands before ≡ Ok after → after ≡ sample_world
unfolding sample_world
filled before after nothing done =
    sym (ap (λ w. result_unwrap_or (after_all sample_commands w) empty) (sym nothing) ∙ ap (λ r. result_unwrap_or r empty) done)
