-- What is found in a list, what of it passes, and what holds of all.
use Rattle.std.proofs.Common.{◌≡◌, ℕ, zero, suc, ◌<◌, Bool, true, false, not, ◌||◌, eqb, ne_eqb, cond, List, [], ◌∷◌, map, filter, find, length, get_or, Some, is_some, IsTrue, ◌↔◌, refl, sym, ap, arith, true≢false}
use Rattle.std.specs.Bool.{MatchBool}
use Rattle.std.specs.List.{AllByRecursion, AllWithin, HoldsAt, list_any}

-- a record is found where some pass
pub found_if_some : {X : Type 0} (p : X → Bool) (xs : List X) → not (eqb (length (filter p xs)) 0) ≡ is_some (find p xs)
found_if_some p [] = refl
found_if_some p (x ∷ xs) =
    elim (p x) as (λ b. not (eqb (length (cond b (x ∷ filter p xs) (filter p xs))) 0) ≡ is_some (cond b (Some x) (find p xs)))
    [ true ↦ ap not (ne_eqb _ _ (omega arith)) | false ↦ found_if_some p xs ]

pub list_any-map : {X Y : Type 0} (p : Y → Bool) (f : X → Y) (xs : List X) → list_any (λ x. p (f x)) xs ≡ list_any p (map f xs)
list_any-map p f [] = refl
list_any-map p f (x ∷ xs) = ap (λ b. p (f x) || b) (list_any-map p f xs)

module _ {X : Type 0} (P : X → Type 0) where
  from_places : (xs : List X) → AllWithin P xs 0 (length xs) → AllByRecursion P xs
  from_places [] h = tt
  from_places (x ∷ xs) h = (h 0 x (omega arith) (omega arith), from_places xs (λ k d low within. h (suc k) d (omega arith) (omega arith)))

  at_place : (xs : List X) (k : ℕ) (d : X) → k < length xs → AllByRecursion P xs → P (get_or xs k d)
  at_place [] k d within all = absurd (omega arith)
  at_place (x ∷ xs) zero d within all = all.0
  at_place (x ∷ xs) (suc k) d within all = at_place xs k d (omega arith) all.1

  not_all : (xs : List X) (k : ℕ) → k < length xs → HoldsAt (λ x. P x → ⊥) xs k → AllByRecursion P xs → ⊥
  not_all [] k within out all = omega arith
  not_all (x ∷ xs) k within out all = out x (at_place (x ∷ xs) k x within all)

  -- what `all` answers
  pub answered : (xs : List X) (b : Bool) → MatchBool b (AllWithin P xs 0 (length xs)) ((k : ℕ) × (k < length xs) × HoldsAt (λ x. P x → ⊥) xs k)
      → IsTrue b ↔ AllByRecursion P xs
  answered xs true told = (λ t. from_places xs told, λ all. refl)
  answered xs false told = (λ t. absurd (true≢false (sym t)), λ all. absurd (not_all xs told.0 told.1 told.2 all))
