-- A list in the order of its keys is sorted by the host, and by host and name where its keys are these.
use Rattle.std.proofs.Common.{◌≡◌, ℕ, zero, suc, ◌<◌, false, List, [], ◌∷◌, length, get_or, refl, sym, ap, subst, ◌∙◌, arith, add-one, true≢false, Ordering, Less, Equal, Greater, is_gt, is_lt}
use Rattle.std.specs.Ordering.{ordering_then, ordering_reverse}
use Rattle.std.specs.List.Sorted.{IsSortedByKey}
use Rattle.sqlite_value.specs.declared.value.Value.TheVariants.{Text}
use Rattle.sqlite_value.specs.Order.{Row, value_cmp, row_cmp}
use Rattle.sqlite_value.proofs.OrderLemmas.{value_cmp-Text, then-Equal}
use Rattle.sqlite_trees.specs.Tree.{IsAscending}
use Rattle.dh_world.specs.World.{text_cmp, pair_cmp}
use Rattle.dh_world.proofs.MapLemmas.{text_total, held_total}
use Rattle.dh_records.specs.Constraints.{InOrder}

module _ {X : Type 0} (R : X → X → Type 0) where
  neighbours : (xs : List X) → IsAscending R xs → (k : ℕ) (d : X) → suc k < length xs → R (get_or xs k d) (get_or xs (suc k) d)
  neighbours [] up k d within = absurd (omega arith)
  neighbours (x ∷ []) up k d within = absurd (omega arith)
  neighbours (x ∷ y ∷ xs) up zero d within = up.0.0
  neighbours (x ∷ y ∷ xs) up (suc k) d within = neighbours (y ∷ xs) up.1 k d (omega arith)

  sorted_by : {K : Type 0} (key : X → K) (cmp : K → K → Ordering) → ((x y : X) → R x y → is_lt (cmp (key y) (key x)) ≡ false) → (xs : List X) → IsAscending R xs → IsSortedByKey key cmp xs
  sorted_by key cmp rises xs up = λ k d low within. rw add-one (rises (get_or xs k d) (get_or xs (suc k) d) (neighbours xs up k d (omega arith)))

first_part : (p q : Ordering) → ordering_then p q ≡ Less → is_gt p ≡ false
first_part Less q e = refl
first_part Equal q e = refl
first_part Greater q e = absurd (true≢false (ap is_gt e))

turned_lt : (o : Ordering) → is_lt (ordering_reverse o) ≡ is_gt o
turned_lt Less = refl
turned_lt Equal = refl
turned_lt Greater = refl

host_rises : (a b : List ℕ) (xs ys : Row) → row_cmp (Text a ∷ xs) (Text b ∷ ys) ≡ Less → is_lt (text_cmp b a) ≡ false
host_rises a b xs ys less =
    ap is_lt (text_total.antisymm b a) ∙ turned_lt (text_cmp a b) ∙ ap is_gt (sym (value_cmp-Text a b)) ∙ first_part (value_cmp (Text a) (Text b)) (row_cmp xs ys) less

-- keys that begin with the host; the list as it was lent
pub by_host : {X : Type 0} (host_of : X → List ℕ) (rest_of : X → Row) (lent xs : List X) → lent ≡ xs → InOrder (λ x. Text (host_of x) ∷ rest_of x) xs → IsSortedByKey host_of text_cmp lent
by_host host_of rest_of lent xs is up =
    subst (IsSortedByKey host_of text_cmp) (sym is) (sorted_by _ host_of text_cmp (λ x y. host_rises (host_of x) (host_of y) (rest_of x) (rest_of y)) xs up)

pair_rises : (a b c d : List ℕ) → row_cmp (Text a ∷ Text b ∷ []) (Text c ∷ Text d ∷ []) ≡ Less → is_lt (pair_cmp text_cmp text_cmp (c, d) (a, b)) ≡ false
pair_rises a b c d less =
    let same : row_cmp (Text a ∷ Text b ∷ []) (Text c ∷ Text d ∷ []) ≡ pair_cmp text_cmp text_cmp (a, b) (c, d) = rw (value_cmp-Text a c, value_cmp-Text b d, then-Equal (text_cmp b d)) refl in
    ap is_lt (held_total.antisymm (c, d) (a, b) ∙ ap ordering_reverse (sym same ∙ less))

-- keys of a host and a name
pub by_name : {X : Type 0} (host_of name_of : X → List ℕ) (lent xs : List X) → lent ≡ xs → InOrder (λ x. Text (host_of x) ∷ Text (name_of x) ∷ []) xs → IsSortedByKey (λ x. (host_of x, name_of x)) (pair_cmp text_cmp text_cmp) lent
by_name host_of name_of lent xs is up =
    subst (IsSortedByKey (λ x. (host_of x, name_of x)) (pair_cmp text_cmp text_cmp)) (sym is)
    (sorted_by _ (λ x. (host_of x, name_of x)) (pair_cmp text_cmp text_cmp) (λ x y. pair_rises (host_of x) (name_of x) (host_of y) (name_of y)) xs up)
