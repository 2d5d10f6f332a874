-- Rows and records, as lists.
use Rattle.std.proofs.Common.{add-one, ◌≡◌, zero, suc, Bool, true, false, cond, List, [], ◌∷◌, map, filter, refl, sym, ap, ◌∙◌, subst, arith, Ordering, Less, Equal, Greater, is_lt, is_gt, is_eq, true≢false, IsPermutation, IsSorted}
use Rattle.std.specs.List.{AllByRecursion}
use Rattle.std.specs.Cmp.{IsTotalOrder}
use Rattle.std.specs.Ordering.{match_ordering, ordering_reverse}
use Rattle.std.proofs.lemmas.Cmp.{on_total, lists_total}
use Rattle.std.proofs.lemmas.List.Sorted.{IsPermutation-refl, IsPermutation-cons, IsPermutation-trans, IsPermutation-sym, IsPermutation-map, IsPermutation-middle, All-permutation}
use Rattle.std.proofs.lemmas.List.Elements.{recursion_from_All, All-from_recursion}
use Rattle.sqlite_value.specs.Order.{Row, value_cmp}
use Rattle.sqlite_value.proofs.OrderLemmas.{value_cmp_total}
use Rattle.sqlite_trees.specs.Tree.{rowid, put_row, IsAscending}
use Rattle.sqlite_rules.specs.Edit.{is_taken}
use Rattle.sqlite_keyed.specs.Lists.{sort_by, insert_sorted}
use Rattle.sqlite_keyed.proofs.ListLemmas.{all_weaker, all-filter, ascending-filter, IsPermutation-filter, filter-map, along_permutation}
use Rattle.sqlite_keyed.proofs.SortLemmas.{sorted_unique, IsPermutation-sort_by}
use Rattle.dh_rows.specs.Keyed.{Coding, IsCoded, IsTableOf, by_key, records_in_rows}

-- ---- lists with no ties

module _ {X : Type 0} (cmp : X → X → Ordering) (total : IsTotalOrder cmp) where
  abbrev pub Rises : List X → Type 0
  Rises = IsAscending (λ a b. cmp a b ≡ Less)

  abbrev pub NoTies : List X → Type 0
  NoTies = IsAscending (λ a b. is_eq (cmp a b) ≡ false)

  all-insert : (P : X → Type 0) (new : X) (xs : List X) → P new → AllByRecursion P xs → AllByRecursion P (insert_sorted cmp new xs)
  all-insert P new [] h all = (h, tt)
  all-insert P new (x ∷ xs) h all =
      elim (is_gt (cmp new x)) as (λ b. AllByRecursion P (cond b (x ∷ insert_sorted cmp new xs) (new ∷ x ∷ xs))) [ true ↦ (all.0, all-insert P new xs h all.1) | false ↦ (h, all) ]

  all-sort : (P : X → Type 0) (xs : List X) → AllByRecursion P xs → AllByRecursion P (sort_by cmp xs)
  all-sort P [] all = tt
  all-sort P (x ∷ xs) all = all-insert P x _ all.0 (all-sort P xs all.1)

  rises-insert : (new : X) (xs : List X) → AllByRecursion (λ y. is_eq (cmp new y) ≡ false) xs → Rises xs → Rises (insert_sorted cmp new xs)
  rises-insert new [] apart up = (tt, tt)
  rises-insert new (x ∷ xs) apart up = go (cmp new x) refl (rises-insert new xs apart.1 up.1)
    where
      go : (o : Ordering) → cmp new x ≡ o → Rises (insert_sorted cmp new xs) → Rises (cond (is_gt o) (x ∷ insert_sorted cmp new xs) (new ∷ x ∷ xs))
      go Less e more = ((e, all_weaker _ (λ y. cmp new y ≡ Less) (λ y. total.trans new x y e) xs up.0), up)
      go Equal e more = absurd (true≢false (sym (ap is_eq e) ∙ apart.0))
      go Greater e more = (all-insert _ new xs (total.antisymm x new ∙ ap ordering_reverse e) up.0, more)

  pub rises-sort : (xs : List X) → NoTies xs → Rises (sort_by cmp xs)
  rises-sort [] apart = tt
  rises-sort (x ∷ xs) apart = rises-insert x _ (all-sort _ xs apart.0) (rises-sort xs apart.1)

  pub sorted_if_rises : (xs : List X) → Rises xs → IsSorted cmp xs
  sorted_if_rises [] up k d low high = absurd (omega arith)
  sorted_if_rises (x ∷ []) up k d low high = absurd (omega arith)
  sorted_if_rises (x ∷ y ∷ xs) up zero d low high = ap is_lt (total.antisymm y x ∙ ap ordering_reverse up.0.0)
  sorted_if_rises (x ∷ y ∷ xs) up (suc k) d low high = rw add-one (rw add-one at (sorted_if_rises (y ∷ xs) up.1 k d (omega arith) (omega arith)))

  pub one_order : (xs ys : List X) → Rises xs → Rises ys → IsPermutation xs ys → ys ≡ xs
  one_order xs ys up down same = sorted_unique cmp total xs ys up same (sorted_if_rises ys down)

  pub sort_moved : (xs ys : List X) → NoTies xs → NoTies ys → IsPermutation xs ys → sort_by cmp ys ≡ sort_by cmp xs
  sort_moved xs ys p q same =
      one_order _ _ (rises-sort xs p) (rises-sort ys q) (IsPermutation-trans _ _ _ (IsPermutation-sort_by cmp total xs) (IsPermutation-trans _ _ _ same (IsPermutation-sym _ _ (IsPermutation-sort_by cmp total ys))))

  pub sort_filter : (p : X → Bool) (xs : List X) → NoTies xs → sort_by cmp (filter p xs) ≡ filter p (sort_by cmp xs)
  sort_filter p xs apart =
      one_order _ _ (ascending-filter _ p _ (rises-sort xs apart)) (rises-sort _ (ascending-filter _ p xs apart))
      (IsPermutation-trans _ _ _ (IsPermutation-filter p _ _ (IsPermutation-sort_by cmp total xs)) (IsPermutation-sym _ _ (IsPermutation-sort_by cmp total (filter p xs))))

  abbrev KeepsNoTies : List X → List X → Type 0
  KeepsNoTies xs ys = ((z : X) → AllByRecursion (λ y. is_eq (cmp z y) ≡ false) xs → AllByRecursion (λ y. is_eq (cmp z y) ≡ false) ys) × (NoTies xs → NoTies ys)

  pub other_way : (x y : X) → is_eq (cmp x y) ≡ false → is_eq (cmp y x) ≡ false
  other_way x y apart = go (cmp x y) refl
    where
      go : (o : Ordering) → cmp x y ≡ o → is_eq (cmp y x) ≡ false
      go Less e = ap is_eq (total.antisymm y x ∙ ap ordering_reverse e)
      go Equal e = absurd (true≢false (sym (ap is_eq e) ∙ apart))
      go Greater e = ap is_eq (total.antisymm y x ∙ ap ordering_reverse e)

  moves : (xs ys : List X) → IsPermutation xs ys → KeepsNoTies xs ys
  moves = along_permutation KeepsNoTies (λ xs. (λ z h. h, λ h. h)) (λ x xs ys r. (λ z h. (h.0, r.0 z h.1), λ h. (r.0 x h.0, r.1 h.1)))
      (λ x y xs. (λ z h. (h.1.0, (h.0, h.1.1)), λ h. ((other_way x y h.0.0, h.1.0), (h.0.1, h.1.1))))
      (λ xs ys zs r s. (λ z h. s.0 z (r.0 z h), λ h. s.1 (r.1 h)))

  pub ties_moved : (xs ys : List X) → IsPermutation xs ys → NoTies xs → NoTies ys
  ties_moved xs ys same = (moves xs ys same).1

pub all_moved : {A : Type 0} (P : A → Type 0) (xs ys : List A) → IsPermutation xs ys → AllByRecursion P xs → AllByRecursion P ys
all_moved P xs ys same all = recursion_from_All P ys (All-permutation P xs ys same (All-from_recursion P xs all))

pub by_key_total : {X : Type 0} (key : X → Row) → IsTotalOrder (by_key key)
by_key_total key = on_total key (lists_total value_cmp_total)

-- ---- a row more

-- a new row stands somewhere among the others
pub put_row_moves : (new : Row) (rows : List Row) → is_taken rows new ≡ false → IsPermutation (new ∷ rows) (put_row new rows)
put_row_moves new [] free = IsPermutation-refl _
put_row_moves new (r ∷ rs) free = go (value_cmp (rowid r) (rowid new)) refl (put_row_moves new rs)
  where
    go : (o : Ordering) → value_cmp (rowid r) (rowid new) ≡ o → (is_taken rs new ≡ false → IsPermutation (new ∷ rs) (put_row new rs))
        → IsPermutation (new ∷ r ∷ rs) (match_ordering o (r ∷ put_row new rs) (new ∷ rs) (new ∷ r ∷ rs))
    go Less e more = IsPermutation-trans _ _ _ (IsPermutation-sym _ _ (IsPermutation-middle (r ∷ []) new rs)) (IsPermutation-cons r _ _ (more (rw e at free)))
    go Equal e more = absurd (true≢false (rw e at free))
    go Greater e more = IsPermutation-refl _

id_cmp : Row → Row → Ordering
id_cmp a b = value_cmp (rowid a) (rowid b)

pub id_total : IsTotalOrder (λ (a : Row) (b : Row). value_cmp (rowid a) (rowid b))
id_total = on_total rowid value_cmp_total

free_apart : (rows : List Row) (new : Row) → is_taken rows new ≡ false → AllByRecursion (λ r. is_eq (value_cmp (rowid new) (rowid r)) ≡ false) rows
free_apart [] new free = tt
free_apart (r ∷ rs) new free = go (is_eq (value_cmp (rowid r) (rowid new))) refl (free_apart rs new)
  where
    go : (b : Bool) → is_eq (value_cmp (rowid r) (rowid new)) ≡ b → (is_taken rs new ≡ false → AllByRecursion (λ x. is_eq (value_cmp (rowid new) (rowid x)) ≡ false) rs)
        → AllByRecursion (λ x. is_eq (value_cmp (rowid new) (rowid x)) ≡ false) (r ∷ rs)
    go true e more = absurd (true≢false (rw e at free))
    go false e more = (other_way _ id_total r new e, more (rw e at free))

module _ {X : Type 0} (c : Coding X) where
  abbrev Apart : X → List X → Type 0
  Apart x xs = AllByRecursion (λ y. is_eq (by_key c.key x y) ≡ false) xs

  pub adds_row : (new : Row) (rows : List Row) → IsTableOf c rows → is_taken rows new ≡ false → IsCoded c new → Apart (c.decode new) (map c.decode rows)
      → IsTableOf c (put_row new rows) × (records_in_rows c (put_row new rows) ≡ insert_sorted (by_key c.key) (c.decode new) (records_in_rows c rows))
  adds_row new rows was free coded apart =
      let same = put_row_moves new rows free in
      let seen = IsPermutation-map c.decode _ _ same in
      let keyed = ties_moved (by_key c.key) (by_key_total c.key) (c.decode new ∷ map c.decode rows) _ seen (apart, was.keyed) in (
        record {
          coded = all_moved (IsCoded c) _ _ same (coded, was.coded);
          apart = ties_moved _ id_total (new ∷ rows) _ same (free_apart rows new free, was.apart);
          keyed = keyed;
        },
        sort_moved (by_key c.key) (by_key_total c.key) (c.decode new ∷ map c.decode rows) _ (apart, was.keyed) keyed seen,
      )

  -- some rows less
  pub drops_rows : (p : X → Bool) (rows : List Row) → IsTableOf c rows
      → IsTableOf c (filter (λ r. p (c.decode r)) rows) × (records_in_rows c (filter (λ r. p (c.decode r)) rows) ≡ filter p (records_in_rows c rows))
  drops_rows p rows was =
      let seen = filter-map p c.decode rows in (
        record {
          coded = all-filter (IsCoded c) _ rows was.coded;
          apart = ascending-filter _ _ rows was.apart;
          keyed = subst (λ l. IsAscending (λ a b. is_eq (by_key c.key a b) ≡ false) l) seen (ascending-filter _ p _ was.keyed);
        },
        ap (sort_by (by_key c.key)) (sym seen) ∙ sort_filter (by_key c.key) (by_key_total c.key) p (map c.decode rows) was.keyed,
      )
