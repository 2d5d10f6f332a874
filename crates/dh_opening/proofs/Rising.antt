-- Rows that rise, one after the other.
use Rattle.std.proofs.Common.{◌≡◌, ℕ, suc, List, [], ◌∷◌, length, take, drop, ◌-◌, get_or, slice_get, Some, Option, Bool, true, IsTrue, ◌↔◌, sym, ap, ◌∙◌, refl, subst, arith, Ordering, Less, Equal, Greater, is_lt}
use Rattle.std.specs.Cmp.{IsTotalOrder}
use Rattle.std.proofs.lemmas.Cmp.{on_total, lists_total}
use Rattle.sqlite_value.specs.Order.{row_cmp}
use Rattle.sqlite_value.proofs.OrderLemmas.{value_cmp_total}
use Rattle.sqlite_trees.specs.Tree.{IsAscending}
use Rattle.sqlite_keyed.proofs.ListLemmas.{all_weaker}
use Rattle.dh_opening.specs.Rows.{part}

pub part_total : (places : List ℕ) → IsTotalOrder (λ a b. row_cmp (part places a) (part places b))
part_total places = on_total (part places) (lists_total value_cmp_total)

pub as_less : (o : Ordering) → is_lt o ≡ true → o ≡ Less
as_less Less e = refl
as_less Equal e = absurd (cc)
as_less Greater e = absurd (cc)

whole : {X : Type 0} (xs : List X) → take (length xs) xs ≡ xs
whole [] = refl
whole (x ∷ xs) = ap (λ l. x ∷ l) (whole xs)

module _ {X : Type 0} (cmp : X → X → Ordering) (total : IsTotalOrder cmp) where
  abbrev Rises : List X → Type 0
  Rises = IsAscending (λ a b. cmp a b ≡ Less)

  -- where the first stands before the second, all rise if those behind the first do
  pub one_more : (rows : List X) (first second : X) (up : Bool) → first ≡ get_or rows 0 first → Some second ≡ slice_get (take (length rows - 1) (drop 1 rows)) 0 → cmp first second ≡ Less → (IsTrue up ↔ Rises (take (length rows - 1) (drop 1 rows))) → (IsTrue up ↔ Rises rows)
  one_more [] first second up at next less both = absurd (cc)
  one_more (x ∷ []) first second up at next less both = absurd (cc)
  one_more (x ∷ y ∷ ys) first second up at next less both =
      let count : length (x ∷ y ∷ ys) - 1 ≡ suc (length ys) = omega arith in
      let found : ◌≡◌ {A = Option X} (Some second) (Some y) = subst (λ (n : ℕ). ◌≡◌ {A = Option X} (Some second) (slice_get (take n (y ∷ ys)) 0)) count next in
      let same : y ≡ second = cc in
      let front : first ≡ x = at in
      let below : cmp x y ≡ Less = subst (λ (z : X). cmp x z ≡ Less) (sym same) (subst (λ (z : X). cmp z second ≡ Less) front less) in
      let all : take (length (x ∷ y ∷ ys) - 1) (y ∷ ys) ≡ y ∷ ys = ap (λ (n : ℕ). take n (y ∷ ys)) count ∙ whole (y ∷ ys) in
      ((λ it. let rest = subst Rises all (both.0 it) in ((below, all_weaker _ (λ z. cmp x z ≡ Less) (λ z. total.trans x y z below) ys rest.0), rest)), (λ it. both.1 (subst Rises (sym all) it.1)))
