-- What cutting and searching a text gives, in the words of `specs/`.
use Rattle.std.proofs.Common.{◌≡◌, ◌≢◌, ℕ, suc, min, ◌+◌, ◌-◌, ◌<◌, ◌≤◌, Bool, true, false, cond, not, ◌||◌, List, [], ◌∷◌, ◌++◌, length, take, drop, get_or, nat_eq, nat_lt, Some, None, refl, sym, ap, subst, ◌∙◌, arith, length-take, lt-ltb, lit<}
use Rattle.std.specs.Bool.{MatchBool}
use Rattle.std.specs.List.{position_or_len, before_first, starts_with, ends_with}
use Rattle.std.specs.Str.{IsUtf8, IsCharBoundary}
use Rattle.std.specs.Str.Iter.{HasSubslice}
use Rattle.std.specs.Str.Pattern.{FindsCharSuffix, FindsText, FindsTextSuffix, StripsSuffix, HasMatch}
use Rattle.std.proofs.lemmas.Bool.Decides.{Decides-eqb}
use Rattle.std.proofs.Math.Bool.{or-true}
use Rattle.std.proofs.lemmas.Slice.Eq.{starts_is}
use Rattle.std.proofs.lemmas.Str.Pattern.{strip_suffix_char, ends_text, contains_text}
use Rattle.std.proofs.lemmas.Str.{IsCharBoundary-from_take}
use Rattle.std.proofs.lemmas.List.{take_all, take_more, take_min}
use Rattle.dh_redirects.specs.Redirects.{has_text, ends_in_star}
use Rattle.dh_redirects.specs.Locations.{stem}

same_answer : (x y : Bool) → (x ≡ true → y ≡ true) → (y ≡ true → x ≡ true) → x ≡ y
same_answer true true f g = refl
same_answer true false f g = sym (f refl)
same_answer false true f g = g refl
same_answer false false f g = refl

-- that a text begins with another, as an equation
pub starts_front : (s p : List ℕ) → starts_with nat_eq s p ≡ true → s ≡ p ++ drop (length p) s
starts_front s p h = (starts_is Decides-eqb s p (starts_with nat_eq s p) refl).0 h

pub starts_from : (s p rest : List ℕ) → s ≡ p ++ rest → starts_with nat_eq s p ≡ true
starts_from s p rest h = (starts_is Decides-eqb s p (starts_with nat_eq s p) refl).1 rest h

holds_found : (n s : List ℕ) → has_text n s ≡ true → HasSubslice s n
holds_found n [] h = ([], drop (length n) [], starts_front [] n h)
holds_found n (b ∷ bs) h =
    elim (starts_with nat_eq (b ∷ bs) n) as (λ v. starts_with nat_eq (b ∷ bs) n ≡ v → (v || has_text n bs) ≡ true → HasSubslice (b ∷ bs) n) [
      | true ↦ λ e _. ([], drop (length n) (b ∷ bs), starts_front (b ∷ bs) n e)
      | false ↦ λ _ e. let found = holds_found n bs e in (b ∷ found.0, found.1, ap (λ ys. b ∷ ys) found.2)
    ] refl h

holds_from : (n s a t : List ℕ) → s ≡ a ++ (n ++ t) → has_text n s ≡ true
holds_from n [] [] t e = starts_from [] n t e
holds_from n [] (x ∷ a) t e = cc
holds_from n (b ∷ bs) [] t e = rw (starts_from (b ∷ bs) n t e) refl
holds_from n (b ∷ bs) (x ∷ a) t e =
    let tail : bs ≡ a ++ (n ++ t) = cc in
    rw (holds_from n bs a t tail) (or-true (starts_with nat_eq (b ∷ bs) n))

-- `contains` at a text
pub holds_is : (r : Bool) (n s : List ℕ) → MatchBool r (HasMatch (FindsText n) s) (FindsText n s None) → r ≡ has_text n s
holds_is r n s h =
    let both = contains_text r n s h in
    same_answer r (has_text n s) (λ e. let found = both.0 e in holds_from n s found.0 found.1 found.2) (λ e. both.1 (holds_found n s e))

-- by the first byte
pub before_first-cons : (p : ℕ → Bool) (x : ℕ) (xs : List ℕ) → before_first p (x ∷ xs) ≡ cond (p x) [] (x ∷ before_first p xs)
before_first-cons p x xs = elim (p x) as (λ v. take (cond (not v) (1 + position_or_len p xs) 0) (x ∷ xs) ≡ cond v [] (x ∷ before_first p xs)) [
  | true ↦ refl
  | false ↦ let e : 1 + position_or_len p xs ≡ suc (position_or_len p xs) = omega arith in rw e refl
]

-- before the first of two kinds of byte
pub before_either : (p q : ℕ → Bool) (xs : List ℕ) → before_first p (before_first q xs) ≡ before_first (λ b. p b || q b) xs
before_either p q [] = refl
before_either p q (x ∷ xs) =
    rw (before_first-cons q x xs, before_first-cons (λ b. p b || q b) x xs)
    (elim (q x) as (λ v. before_first p (cond v [] (x ∷ before_first q xs)) ≡ cond (p x || v) [] (x ∷ before_first (λ b. p b || q b) xs)) [
      | true ↦ rw (or-true (p x)) refl
      | false ↦ rw (before_first-cons p x (before_first q xs), before_either p q xs) (elim (p x) as (λ w. cond w [] (x ∷ before_first (λ b. p b || q b) xs) ≡ cond (w || false) [] (x ∷ before_first (λ b. p b || q b) xs)) [ true ↦ refl | false ↦ refl ])
    ])

-- a text may be cut where a text that begins it ends
pub boundary_after : (t front : List ℕ) (k : ℕ) → IsUtf8 t → IsUtf8 front → front ≡ take k t → IsCharBoundary t (length front)
boundary_after t front k whole begins e =
    let size : length front ≡ min k (length t) = ap length e ∙ length-take k t in
    let fits : length front ≤ length t = omega arith in
    let same : take (length front) t ≡ front = ap (λ n. take n t) size ∙ take_min k t ∙ sym e in
    IsCharBoundary-from_take t (length front) whole fits (subst IsUtf8 (sym same) begins)

ends_in_star-false : (s : List ℕ) → ((front : List ℕ) → s ≢ front ++ (42 ∷ [])) → ends_in_star s ≡ false
ends_in_star-false [] h = refl
ends_in_star-false (x ∷ xs) h =
    elim (ends_in_star (x ∷ xs)) as (λ v. ends_in_star (x ∷ xs) ≡ v → ends_in_star (x ∷ xs) ≡ false) [
      | true ↦ λ e.
          let last : get_or (x ∷ xs) (length (x ∷ xs) - 1) 0 ≡ 42 = (Decides-eqb _ _).0 e in
          let inside : length (x ∷ xs) - 1 < length (x ∷ xs) = omega arith in
          let more = take_more (x ∷ xs) (length (x ∷ xs) - 1) 0 inside in
          let all : length (x ∷ xs) ≤ length (x ∷ xs) - 1 + 1 = omega arith in
          let ends : x ∷ xs ≡ take (length (x ∷ xs) - 1) (x ∷ xs) ++ (42 ∷ []) = sym (take_all (length (x ∷ xs) - 1 + 1) (x ∷ xs) all) ∙ more ∙ ap (λ b. take (length (x ∷ xs) - 1) (x ∷ xs) ++ (b ∷ [])) last in
          absurd (h (take (length (x ∷ xs) - 1) (x ∷ xs)) ends)
      | false ↦ λ e. e
    ] refl

-- `strip_suffix` at a `*`
pub no_final_star : (s : List ℕ) → FindsCharSuffix 42 s None → ends_in_star s ≡ false
no_final_star s h = ends_in_star-false s (strip_suffix_char 42 s None h (lit< tt))

-- `strip_suffix` at a text
pub stem_none : (end file : List ℕ) → FindsTextSuffix end file None → stem end file ≡ None
stem_none end file h = rw (← ends_text false end file h) refl

pub stem_some : (end file p : List ℕ) → StripsSuffix (FindsTextSuffix end) file p → 0 < length p → stem end file ≡ Some p
stem_some end file p h some =
    let n = h.0 in
    let same : n ≡ length end = h.1.0 in
    let fits : n ≤ length file = omega (arith, h.3) in
    let ends : true ≡ ends_with nat_eq file end = ends_text true end file (n, h.1, fits, rw same h.1.2) in
    let longer : nat_lt (length end) (length file) ≡ true = lt-ltb (length end) (length file) (omega (arith, h.3)) in
    let front : p ≡ take (length file - length end) file = rw (← same) h.2 in
    rw (← ends, longer, ← front) refl
