-- Rows are rowids in their order where each is an integer above that of the row before it.
use Rattle.std.proofs.Common.{◌≡◌, ◌↔◌, ℕ, ◌+◌, ◌<◌, ◌≤◌, ℤ, Bool, true, false, ◌&&◌, IsTrue, List, [], ◌∷◌, length, drop, get_or, Option, Some, None, int_lt, refl, sym, ap, ◌∙◌, arith, true≢false, Less}
use Rattle.std.specs.List.{AllByRecursion}
use Rattle.std.proofs.lemmas.Int.{ints}
use Rattle.std.proofs.lemmas.Bool.{and_parts}
use Rattle.std.proofs.lemmas.List.{at_drop_more, at_drop_all}
use Rattle.sqlite_value.specs.declared.value.Value.{Value}
use Rattle.sqlite_value.specs.declared.value.Value.TheVariants.{Null, Int, Real, Text, Blob}
use Rattle.sqlite_value.specs.Order.{Row, column, value_cmp}
use Rattle.sqlite_value.proofs.OrderLemmas.{value_cmp_total, value_cmp-Int}
use Rattle.sqlite_trees.specs.Tree.{rowid}
use Rattle.sqlite_keyed.proofs.ListLemmas.{all_weaker}
use Rattle.sqlite_keyed.proofs.KeyedLemmas.{Less-from_lt, lt_from_Less}
use Rattle.dh_rows.specs.Whole.{AreRowids, lone_int, is_above}

-- ---- one row

abbrev pub as_int : Value → Option ℤ
as_int (Int n) = Some n
as_int _ = None

pub lone : (row : Row) → length row ≡ 1 → lone_int row ≡ as_int (column row 0)
lone [] e = absurd (omega arith)
lone (Null ∷ []) e = refl
lone (Int n ∷ []) e = refl
lone (Real x ∷ []) e = refl
lone (Text t ∷ []) e = refl
lone (Blob b ∷ []) e = refl
lone (v ∷ w ∷ more) e = absurd (omega arith)

pub not_lone : (row : Row) → (length row ≡ 1 → ⊥) → lone_int row ≡ None
not_lone [] apart = refl
not_lone (v ∷ []) apart = absurd (apart refl)
not_lone (Null ∷ w ∷ more) apart = refl
not_lone (Int n ∷ w ∷ more) apart = refl
not_lone (Real x ∷ w ∷ more) apart = refl
not_lone (Text t ∷ w ∷ more) apart = refl
not_lone (Blob b ∷ w ∷ more) apart = refl

is_rowid : (row : Row) (n : ℤ) → lone_int row ≡ Some n → row ≡ Int n ∷ []
is_rowid [] n e = absurd (cc)
is_rowid (Int m ∷ []) n e = let same : m ≡ n = cc in ap (λ k. Int k ∷ []) same
is_rowid (v ∷ w ∷ more) n e = absurd (let none : None ≡ Some n = sym (not_lone (v ∷ w ∷ more) (λ h. omega arith)) ∙ e in cc)
is_rowid (v ∷ []) n e = absurd (cc)

-- ---- one row after the other

abbrev pub with_id : (ℤ → Bool) → Option ℤ → Bool
with_id go None = false
with_id go (Some id) = go id

-- each row is an integer above that of the row before it, the first above the last one
abbrev pub rise_from : Option ℤ → List Row → Bool
rise_from last [] = true
rise_from last (r ∷ rs) = with_id (λ id. is_above last id && rise_from (Some id) rs) (lone_int r)

-- all are above it
abbrev Above : Option ℤ → List Row → Type 0
Above None rows = Unit {0}
Above (Some last) rows = AllByRecursion (λ r. value_cmp (Int last) (rowid r) ≡ Less) rows

above_by : (a b : ℤ) → int_lt a b ≡ true → value_cmp (Int a) (Int b) ≡ Less
above_by a b h = value_cmp-Int a b ∙ Less-from_lt a b (grind (arith, ints))

by_above : (a b : ℤ) → value_cmp (Int a) (Int b) ≡ Less → int_lt a b ≡ true
by_above a b h = let low = lt_from_Less a b (sym (value_cmp-Int a b) ∙ h) in grind (arith, ints)

rising : (last : Option ℤ) (rows : List Row) → rise_from last rows ≡ true → AreRowids rows × Above last rows
rising None [] h = (record { ints = tt; rise = tt }, tt)
rising (Some last) [] h = (record { ints = tt; rise = tt }, tt)
rising last (r ∷ rs) h = go (lone_int r) refl h (λ id. rising (Some id) rs)
  where
    under : (last : Option ℤ) (id : ℤ) → r ≡ Int id ∷ [] → is_above last id ≡ true → AllByRecursion (λ b. value_cmp (Int id) (rowid b) ≡ Less) rs → Above last (r ∷ rs)
    under None id is above rest = tt
    under (Some a) id is above rest =
        let first = above_by a id above in
        (ap (λ z. value_cmp (Int a) (rowid z)) is ∙ first, all_weaker _ _ (λ b h. value_cmp_total.trans (Int a) (Int id) (rowid b) first h) rs rest)

    go : (o : Option ℤ) → lone_int r ≡ o → with_id (λ id. is_above last id && rise_from (Some id) rs) o ≡ true → ((id : ℤ) → rise_from (Some id) rs ≡ true → AreRowids rs × Above (Some id) rs) → AreRowids (r ∷ rs) × Above last (r ∷ rs)
    go None e h more = absurd (true≢false (sym h))
    go (Some id) e h more =
        let is = is_rowid r id e in
        let parts = and_parts _ _ h in
        let rest = more id parts.1 in (
          record {
            ints = ((id, is), rest.0.ints);
            rise = (all_weaker _ _ (λ b h. ap (λ z. value_cmp (rowid z) (rowid b)) is ∙ h) rs rest.1, rest.0.rise);
          },
          under last id is parts.0 rest.1,
        )

risen : (last : Option ℤ) (rows : List Row) → AreRowids rows → Above last rows → rise_from last rows ≡ true
risen last [] are above = refl
risen last (r ∷ rs) are above =
    let id = are.ints.0.0 in
    let is = are.ints.0.1 in
    let rest = risen (Some id) rs (record { ints = are.ints.1; rise = are.rise.1 }) (all_weaker _ _ (λ b h. sym (ap (λ z. value_cmp (rowid z) (rowid b)) is) ∙ h) rs are.rise.0) in
    rw (ap lone_int is, over last id is above, rest) refl
  where
    over : (last : Option ℤ) (id : ℤ) → r ≡ Int id ∷ [] → Above last (r ∷ rs) → is_above last id ≡ true
    over None id is above = refl
    over (Some a) id is above = by_above a id (sym (ap (λ z. value_cmp (Int a) (rowid z)) is) ∙ above.0)

pub told_true : (rows : List Row) → rise_from None rows ≡ true → IsTrue true ↔ AreRowids rows
told_true rows h = (λ _. (rising None rows h).0, λ _. refl)

pub told_false : (rows : List Row) → rise_from None rows ≡ false → IsTrue false ↔ AreRowids rows
told_false rows h = (λ no. absurd (true≢false (sym no)), λ are. absurd (true≢false (sym (risen None rows are tt) ∙ h)))

-- ---- along the rows

module _ (rows : List Row) (i : ℕ) (last : Option ℤ) (so_far : rise_from None rows ≡ rise_from last (drop i rows)) where
  pub all_seen : length rows ≤ i → rise_from None rows ≡ true
  all_seen end = so_far ∙ at_drop_all (rise_from last) rows i end

  pub not_above : (r : Row) → i < length rows → r ≡ get_or rows i r → (id : ℤ) → lone_int r ≡ Some id → is_above last id ≡ false → rise_from None rows ≡ false
  not_above r within is id some low =
      let more = rise_from (Some id) (drop (i + 1) rows) in
      so_far ∙ at_drop_more (rise_from last) rows i r within ∙ ap (λ z. rise_from last (z ∷ drop (i + 1) rows)) (sym is)
      ∙ ap (with_id (λ id. is_above last id && rise_from (Some id) (drop (i + 1) rows))) some ∙ ap (λ b. b && more) low
