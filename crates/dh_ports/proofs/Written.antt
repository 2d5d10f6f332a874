-- What several puts write.
use Rattle.std.proofs.Common.{◌≡◌, ℕ, ◌+◌, ◌||◌, Bool, false, List, ◌++◌, take, drop, Option, Some, None, Ok, arith, append_assoc, ap, sym, ◌∙◌}
use Rattle.std.proofs.Math.Seq.{take-add}
use Rattle.std.proofs.lemmas.Bool.Decides.{nat_tests}
use Rattle.std.specs.Io.KnownBytes.{Appends}
use Rattle.dh_ports.specs.Ports.{put_stops}
use Rattle.dh_ports.specs.declared.source.Failed.{Failed}

-- a second piece goes on where the first ended
pub appends_more : (a b c : Option (List ℕ)) (xs piece : List ℕ) (i n : ℕ) → piece ≡ drop i xs → Appends a b (take i xs) → Appends b c (take n piece) → Appends a c (take (i + n) xs)
appends_more None b c xs piece i n e p q = tt
appends_more (Some x) None c xs piece i n e p q = absurd p
appends_more (Some x) (Some y) None xs piece i n e p q = absurd q
appends_more (Some x) (Some y) (Some z) xs piece i n e p q = q ∙ ap (λ w. w ++ take n piece) p ∙ append_assoc x (take i xs) (take n piece) ∙ ap (λ w. x ++ (take i xs ++ take n w)) e ∙ ap (λ w. x ++ w) (sym (take-add i n xs))

-- a put that took some bytes breaks nothing
pub fine_after : (old new : Bool) (n len : ℕ) → old ≡ false → (n ≡ 0 → ⊥) → new ≡ (old || put_stops {E = Failed} (Ok n) len) → new ≡ false
fine_after old new n len p q r = grind (arith, nat_tests)
