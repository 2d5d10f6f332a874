-- Lists of records that stand at places under their hosts: what is put where it stands changes nothing.
use Rattle.std.proofs.Common.{◌≡◌, ℕ, zero, suc, ◌+◌, ◌<◌, ◌⊎◌, inl, inr, Bool, true, false, not, cond, true≢false, List, [], ◌∷◌, filter, drop, length, get_or, slice_get, Some, refl, sym, ap, ◌∙◌, subst, arith, Ordering, Less, Greater, is_eq, is_gt}
use Rattle.std.specs.List.{AllByRecursion}
use Rattle.std.specs.Ordering.{ordering_reverse}
use Rattle.std.proofs.lemmas.Cmp.{tied_itself}
use Rattle.sqlite_value.specs.Order.{Row}
use Rattle.sqlite_keyed.specs.Lists.{insert_sorted}
use Rattle.sqlite_keyed.proofs.ListLemmas.{all_weaker, filter_all}
use Rattle.dh_rows.specs.Keyed.{by_key, same_key, added, put}
use Rattle.dh_rows.proofs.Lists.{by_key_total}
use Rattle.dh_records.specs.Constraints.{InOrder}
use Rattle.dh_records.specs.Lists.{placed}
use Rattle.dh_records.proofs.KeyLemmas.{place_key, later_above}

module _ {X : Type 0} where
  -- the record stands in the list
  abbrev pub Has : X → List X → Type 0
  Has x [] = ⊥
  Has x (y ∷ ys) = (y ≡ x) ⊎ Has x ys

  pub of_all : (P : X → Type 0) (x : X) (xs : List X) → AllByRecursion P xs → Has x xs → P x
  of_all P x [] all has = absurd has
  of_all P x (y ∷ ys) all (inl same) = subst P same all.0
  of_all P x (y ∷ ys) all (inr has) = of_all P x ys all.1 has

  pub has_at : (xs : List X) (i : ℕ) (x : X) → slice_get xs i ≡ Some x → Has x xs
  has_at [] i x e = absurd (cc)
  has_at (y ∷ ys) zero x e = inl (cc)
  has_at (y ∷ ys) (suc i) x e = inr (has_at ys i x e)

  -- the one at an index that the list has
  pub got : (xs : List X) (i : ℕ) (x : X) → i < length xs → x ≡ get_or xs i x → slice_get xs i ≡ Some x
  got [] i x low e = absurd (omega arith)
  got (y ∷ xs) zero x low e = ap Some (sym e)
  got (y ∷ xs) (suc i) x low e = got xs i x (omega arith) e

  pub has_kept : (p : X → Bool) (x : X) (xs : List X) → p x ≡ true → Has x xs → Has x (filter p xs)
  has_kept p x [] here has = absurd has
  has_kept p x (y ∷ ys) here has = go (p y) refl has (has_kept p x ys here)
    where
      go : (b : Bool) → p y ≡ b → (y ≡ x) ⊎ Has x ys → (Has x ys → Has x (filter p ys)) → Has x (cond b (y ∷ filter p ys) (filter p ys))
      go true e (inl same) more = inl same
      go true e (inr has) more = inr (more has)
      go false e (inl same) more = absurd (true≢false (sym here ∙ ap p (sym same) ∙ e))
      go false e (inr has) more = more has

  pub has_back : (p : X → Bool) (x : X) (xs : List X) → Has x (filter p xs) → Has x xs × (p x ≡ true)
  has_back p x [] has = absurd has
  has_back p x (y ∷ ys) has = go (p y) refl has (has_back p x ys)
    where
      go : (b : Bool) → p y ≡ b → Has x (cond b (y ∷ filter p ys) (filter p ys)) → (Has x (filter p ys) → Has x ys × (p x ≡ true)) → ((y ≡ x) ⊎ Has x ys) × (p x ≡ true)
      go true e (inl same) more = (inl same, ap p (sym same) ∙ e)
      go true e (inr has) more = let it = more has in (inr it.0, it.1)
      go false e has more = let it = more has in (inr it.0, it.1)

  has_inserted : (cmp : X → X → Ordering) (z x : X) (xs : List X) → Has x xs → Has x (insert_sorted cmp z xs)
  has_inserted cmp z x [] has = absurd has
  has_inserted cmp z x (y ∷ ys) has = go (is_gt (cmp z y)) has (has_inserted cmp z x ys)
    where
      go : (b : Bool) → (y ≡ x) ⊎ Has x ys → (Has x ys → Has x (insert_sorted cmp z ys)) → Has x (cond b (y ∷ insert_sorted cmp z ys) (z ∷ y ∷ ys))
      go true (inl same) more = inl same
      go true (inr has) more = inr (more has)
      go false has more = inr has

-- ---- records in the order of their keys

module _ {X : Type 0} (key : X → Row) where
  pub has_put : (z x : X) (xs : List X) → same_key key z x ≡ false → Has x xs → Has x (put key z xs)
  has_put z x xs apart has = has_inserted (by_key key) z x _ (has_kept (λ y. not (same_key key z y)) x xs (ap not apart) has)

  in_front : (x : X) (xs : List X) → AllByRecursion (λ z. by_key key x z ≡ Less) xs → added key x xs ≡ x ∷ xs
  in_front x [] low = refl
  in_front x (z ∷ xs) low = ap (λ o. cond (is_gt o) (z ∷ added key x xs) (x ∷ z ∷ xs)) low.0

  put_first : (x : X) (xs : List X) → AllByRecursion (λ z. by_key key x z ≡ Less) xs → put key x (x ∷ xs) ≡ x ∷ xs
  put_first x xs low =
      let others = filter (λ z. not (same_key key x z)) xs in
      ap (λ b. added key x (cond (not b) (x ∷ others) others)) (ap is_eq (tied_itself (by_key_total key) x))
      ∙ ap (added key x) (filter_all _ xs (all_weaker _ (λ z. not (same_key key x z) ≡ true) (λ z l. ap (λ o. not (is_eq o)) l) xs low))
      ∙ in_front x xs low

  -- a record is put where it stands
  pub put_there : (x : X) (xs : List X) → InOrder key xs → Has x xs → put key x xs ≡ xs
  put_there x [] up has = absurd has
  put_there x (y ∷ ys) up (inl same) = subst (λ (z : X). put key z (y ∷ ys) ≡ y ∷ ys) same (put_first y ys up.0)
  put_there x (y ∷ ys) up (inr has) =
      let below : by_key key y x ≡ Less = of_all (λ z. by_key key y z ≡ Less) x ys up.0 has in
      let above : by_key key x y ≡ Greater = (by_key_total key).antisymm x y ∙ ap ordering_reverse below in
      let others = filter (λ z. not (same_key key x z)) ys in
      ap (λ o. added key x (cond (not (is_eq o)) (y ∷ others) others)) above
      ∙ ap (λ o. cond (is_gt o) (y ∷ added key x others) (x ∷ y ∷ others)) above
      ∙ ap (λ l. y ∷ l) (put_there x ys up.1 has)

-- ---- under a host and a place

module _ {X : Type 0} (host_of : X → List ℕ) (place_of : X → ℕ) where
  -- of a host, what stands at a later place has another key
  pub places_apart : (x o : X) → host_of x ≡ host_of o → place_of x < place_of o → same_key (place_key host_of place_of) x o ≡ false
  places_apart x o same low =
      ap is_eq ((by_key_total (place_key host_of place_of)).antisymm x o ∙ ap ordering_reverse (later_above host_of place_of o x same low))

-- ---- the next of a list at places

pub next_placed : {X V : Type 0} (row : ℕ → V → X) (n i : ℕ) (vs : List V) (v : V) → slice_get vs i ≡ Some v → drop i (placed row n vs) ≡ row (n + i) v ∷ drop (suc i) (placed row n vs)
next_placed row n i [] v e = absurd (cc)
next_placed row n zero (w ∷ vs) v e = let same : w ≡ v = cc in ap (λ z. row n z ∷ placed row (n + 1) vs) same ∙ ap (λ m. row m v ∷ placed row (n + 1) vs) (omega arith)
next_placed {X} {V} row n (suc i) (w ∷ vs) v e =
    next_placed row (n + 1) i vs v e ∙ ap (λ m. row m v ∷ drop (suc i) (placed row (n + 1) vs)) (omega arith)
