-- Places from 1 on, and names that stand once, as loops find them.
use Rattle.std.proofs.Common.{◌≡◌, ℕ, zero, suc, ◌+◌, ◌<◌, Bool, true, false, List, [], ◌∷◌, ◌++◌, map, take, length, get_or, slice_get, Option, Some, IsTrue, ◌↔◌, refl, sym, ap, ap₂, ◌∙◌, arith, true≢false, map-id}
use Rattle.std.specs.List.{IsDistinct, list_any, range_with_len}
use Rattle.std.specs.Str.{bytes_eq}
use Rattle.std.proofs.lemmas.List.{map-append, take_more}
use Rattle.std.proofs.lemmas.List.FromFn.{map-range_with_len_more, get_or-range_with_len}
use Rattle.std.proofs.lemmas.Map.Keys.{IsDistinct-head, IsDistinct-tail, IsDistinct-cons}
use Rattle.std.proofs.lemmas.Slice.Eq.{bytes_eq-Decides}
use Rattle.sqlite_keyed.proofs.ListLemmas.{none_from_any, any_from_none, all_map, all_unmap, all_weaker}
use Rattle.dh_records.proofs.KeyLemmas.{turned}

module _ {X : Type 0} (place_of : X → ℕ) (xs : List X) where
  range_more : (n : ℕ) → range_with_len 1 (n + 1) ≡ range_with_len 1 n ++ (n + 1) ∷ []
  range_more n = sym (map-id _) ∙ map-range_with_len_more (λ k. k) 1 n (n + 1) (omega arith) ∙ ap (λ l. l ++ (n + 1) ∷ []) (map-id _)

  pub placed_more : (i : ℕ) (x : X) → i < length xs → x ≡ get_or xs i x → place_of x ≡ i + 1 → map place_of (take i xs) ≡ range_with_len 1 i → map place_of (take (i + 1) xs) ≡ range_with_len 1 (i + 1)
  placed_more i x within is here so_far =
      ap (map place_of) (take_more xs i x within) ∙ map-append place_of (take i xs) (get_or xs i x ∷ [])
      ∙ ap₂ (λ l p. l ++ p ∷ []) so_far (ap place_of (sym is) ∙ here) ∙ sym (range_more i)

  mapped_at : (ys : List X) (i : ℕ) (x : X) → i < length ys → get_or (map place_of ys) i 0 ≡ place_of (get_or ys i x)
  mapped_at [] i x within = absurd (omega arith)
  mapped_at (y ∷ ys) zero x within = refl
  mapped_at (y ∷ ys) (suc i) x within = mapped_at ys i x (omega arith)

  pub misplaced : (i : ℕ) (x : X) → i < length xs → x ≡ get_or xs i x → (place_of x ≡ i + 1 → ⊥) → IsTrue false ↔ (map place_of xs ≡ range_with_len 1 (length xs))
  misplaced i x within is out = (
    λ t. absurd (true≢false (sym t)),
    λ all.
        absurd (out (ap place_of is ∙ sym (mapped_at xs i x within) ∙ ap (λ l. get_or l i 0) all ∙ get_or-range_with_len 1 (length xs) i 0 within ∙ omega arith)),
  )

module _ {X : Type 0} (name_of : X → List ℕ) where
  abbrev pub AreApart : List X → Type 0
  AreApart xs = IsDistinct bytes_eq (map name_of xs)

  -- the first name stands nowhere behind
  pub apart_more : (x : X) (xs : List X) → list_any (λ y. bytes_eq (name_of y) (name_of x)) xs ≡ false → AreApart xs → AreApart (x ∷ xs)
  apart_more x xs none rest =
      IsDistinct-cons bytes_eq (name_of x) (map name_of xs)
      (all_map (λ n. bytes_eq (name_of x) n ≡ false) name_of xs (all_weaker _ (λ y. bytes_eq (name_of x) (name_of y) ≡ false) (λ y out. turned (name_of x) (name_of y) ∙ out) xs (none_from_any _ xs none)))
      rest

  pub apart_less : (x : X) (xs : List X) → AreApart (x ∷ xs) → AreApart xs
  apart_less x xs all = IsDistinct-tail bytes_eq (name_of x) (map name_of xs) all

  -- the first name stands behind, too
  pub not_apart : (x : X) (xs : List X) → list_any (λ y. bytes_eq (name_of y) (name_of x)) xs ≡ true → AreApart (x ∷ xs) → ⊥
  not_apart x xs some all =
      let none = all_unmap (λ n. bytes_eq (name_of x) n ≡ false) name_of xs (IsDistinct-head bytes_eq (name_of x) (map name_of xs) all) in
      true≢false (sym some ∙ any_from_none _ xs (all_weaker _ (λ y. bytes_eq (name_of y) (name_of x) ≡ false) (λ y out. turned (name_of y) (name_of x) ∙ out) xs none))

  pub none_apart : AreApart []
  unfolding IsDistinct
  none_apart = tt

-- whether the first text is this one
pub first_told : {X : Type 0} (text_of : X → List ℕ) (xs : List X) (x : X) (text : List ℕ) (b : Bool) → Some x ≡ slice_get xs 0 → b ≡ bytes_eq (text_of x) text
    → IsTrue b ↔ (slice_get (map text_of xs) 0 ≡ Some text)
first_told text_of [] x text b is told = absurd (cc)
first_told text_of (y ∷ xs) x text b is told =
    let same : x ≡ y = cc in
    let decides = bytes_eq-Decides (text_of x) text in
    (λ t. ap Some (ap text_of (sym same) ∙ decides.0 (sym told ∙ t)), λ all. told ∙ decides.1 (ap text_of same ∙ inner (text_of y) text all))
  where
    inner : (s t : List ℕ) → ◌≡◌ {A = Option (List ℕ)} (Some s) (Some t) → s ≡ t
    inner s t e = cc
