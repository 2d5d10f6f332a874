-- What several reads take, one after another, and that each was needed.
use Rattle.std.proofs.Common.{◌≡◌, ℕ, ◌≤◌, Bool, List, [], ◌++◌, Option, Some, None, Result, Ok, Err, cond, IfErr, IsErrAnd, refl, arith, append_assoc, ap, sym, subst, ◌∙◌}
use Rattle.std.specs.Io.KnownBytes.{Consumes}
use Rattle.std.proofs.lemmas.Result.{err_from_is_err_and}
use Rattle.dh_ports.specs.declared.source.Source.{Ghosts}
use Rattle.dh_ports.specs.declared.stop.Stop.{Stop}
use Rattle.dh_ports.specs.declared.stop.Stop.TheVariants.{Read, TooManyTurns, Memory}
use Rattle.dh_ports.specs.Reading.{reader_failed, TookAtMost, AddsSome, most_lost}
use Rattle.dh_requests.specs.Takes.{TookWhile, TakesNeeded}

-- some bytes, and then others
pub consumes_on : (a b c : Option (List ℕ)) (xs ys : List ℕ) → Consumes a b xs → Consumes b c ys → Consumes a c (xs ++ ys)
consumes_on None b c xs ys p q = tt
consumes_on (Some x) None c xs ys p q = absurd p
consumes_on (Some x) (Some y) None xs ys p q = absurd q
consumes_on (Some x) (Some y) (Some z) xs ys p q = p ∙ ap (λ w. xs ++ w) q ∙ sym (append_assoc xs ys z)

-- before any read
pub consumes_none : (a : Option (List ℕ)) → Consumes a a []
consumes_none None = tt
consumes_none (Some x) = refl

-- after a read that was needed
pub needed_on : (P : List ℕ → Type 0) (old mid new : Option (List ℕ)) (part before after : List ℕ) (came : Bool) → Consumes old mid part → P part → AddsSome mid new before after came → TookWhile P old new 4096
needed_on P old mid new part before after came p n q = (part, q.0, n, consumes_on old mid new part q.0 p q.1, q.4)

took_needed : (P : List ℕ → Type 0) (old mid new : Option (List ℕ)) (part : List ℕ) (lost most : ℕ) → Consumes old mid part → P part → TookAtMost mid new lost → lost ≤ most → TookWhile P old new most
took_needed P old mid new part lost most p n q le = (part, q.0, n, consumes_on old mid new part q.0 p q.1, omega (arith, q.2))

-- after a read that stopped
pub stopped : (A : Type 0) (P : List ℕ → Type 0) (old mid new : Option (List ℕ)) (part : List ℕ) (stop : Stop) → Consumes old mid part → P part → TookAtMost mid new (most_lost stop) → TookWhile P old new (cond (reader_failed {A = A} (Err stop)) 0 4096)
stopped A P old mid new part Read p n q = took_needed P old mid new part 0 0 p n q (omega arith)
stopped A P old mid new part TooManyTurns p n q = took_needed P old mid new part 0 4096 p n q (omega arith)
stopped A P old mid new part Memory p n q = took_needed P old mid new part 4096 4096 p n q (omega arith)

-- ---- what a call takes, by what it answers

-- whether the reader failed is told by the stop, whatever would have been answered
same_cause : (A B : Type 0) (stop : Stop) → reader_failed {A = A} (Err stop) ≡ reader_failed {A = B} (Err stop)
same_cause A B Read = refl
same_cause A B TooManyTurns = refl
same_cause A B Memory = refl

module _ {S : Type 0} {g : Ghosts S} {old new : S} {Needs : Option (List ℕ) → Option (List ℕ) → ℕ → Type 0} {bytes times : ℕ} where
  -- after an answer, where only memory ran out
  pub takes_still : {A B : Type 0} (a : A) (r : Result B Stop) → IfErr r (λ stop. stop ≡ Memory) → TakesNeeded g old new (Ok a) Needs bytes times → TakesNeeded g old new r Needs bytes times
  takes_still a (Ok b) e t = record {
    needed = t.needed;
    broken = t.broken;
    turns = λ full. absurd (cc);
    full = λ full. absurd (cc);
    reads = t.reads;
  }
  takes_still {B = B} a (Err stop) e t = record {
    needed = subst (λ w. Needs (g.left old) (g.left new) (cond (reader_failed {A = B} (Err w)) 0 4096)) (sym e) t.needed;
    broken = t.broken ∙ ap (λ w. reader_failed {A = B} (Err w)) (sym e);
    turns = λ full. absurd (cc);
    full = λ full. absurd (cc);
    reads = t.reads;
  }

  same_stop : {A B : Type 0} (stop : Stop) → TakesNeeded {T = A} g old new (Err stop) Needs bytes times → TakesNeeded {T = B} g old new (Err stop) Needs bytes times
  same_stop {A = A} {B = B} stop t = record {
    needed = subst (λ failed. Needs (g.left old) (g.left new) (cond failed 0 4096)) (same_cause A B stop) t.needed;
    broken = t.broken ∙ same_cause A B stop;
    turns = λ full. let is : stop ≡ TooManyTurns = cc in t.turns (ap Err is);
    full = λ full. let is : stop ≡ TooManyTurns = cc in t.full (ap Err is);
    reads = t.reads;
  }

  -- after a stop that is handed on
  pub takes_stop : {A B : Type 0} (stop : Stop) (r : Result B Stop) → IsErrAnd r (λ e. e ≡ stop) → TakesNeeded {T = A} g old new (Err stop) Needs bytes times → TakesNeeded g old new r Needs bytes times
  takes_stop {A = A} {B = B} stop r is t =
      let at = err_from_is_err_and r is in
      subst (λ (v : Result B Stop). TakesNeeded g old new v Needs bytes times) (sym (at.1 ∙ ap Err at.2)) (same_stop {A = A} {B = B} stop t)
