-- What `column = ?n` says of two values of one kind.
use Rattle.std.proofs.Common.{◌≡◌, ℕ, ℤ, List, [], ◌∷◌, Bool, true, false, ◌&&◌, Some, refl, sym, ap, ap₂, ◌∙◌, Ordering, Less, Equal, Greater, is_eq, int_cmp}
use Rattle.std.specs.Ordering.{ordering_then}
use Rattle.std.specs.Cmp.{eq_by_cmp_equiv, signed_Decides}
use Rattle.std.proofs.lemmas.Map.Text.{is_eq-slice_cmp}
use Rattle.std.proofs.lemmas.Slice.Eq.{bytes_eq-Decides}
use Rattle.sqlite_value.specs.Order.{Row, value_cmp, row_cmp}
use Rattle.sqlite_value.proofs.OrderLemmas.{value_cmp_total, value_cmp-Text, value_cmp-Int}
use Rattle.sqlite_value.specs.declared.keys.Collation.TheVariants.{Binary}
use Rattle.sqlite_value.specs.declared.value.Value.TheVariants.{Int, Text}
use Rattle.sqlite_sql.specs.declared.ops.BinaryOp.TheVariants.{Compare}
use Rattle.sqlite_sql.specs.declared.ops.CompareOp.TheVariants.{Eq}
use Rattle.sqlite_sql.specs.Ops.{binary, is_true, from_truth}
use Rattle.dh_rows.specs.Keyed.{same_value}

truth : (b : Bool) → is_true (from_truth (Some b)) ≡ b
truth true = refl
truth false = refl

pub equal_text : (a b : List ℕ) → is_true (binary (Compare Eq Binary) (Text a) (Text b)) ≡ same_value (Text a) (Text b)
unfolding binary
equal_text a b = truth (same_value (Text a) (Text b))

pub equal_int : (a b : ℤ) → is_true (binary (Compare Eq Binary) (Int a) (Int b)) ≡ same_value (Int a) (Int b)
unfolding binary
equal_int a b = truth (same_value (Int a) (Int b))

-- ---- keys

eq_then : (p q : Ordering) → is_eq (ordering_then p q) ≡ (is_eq p && is_eq q)
eq_then Less q = refl
eq_then Equal q = refl
eq_then Greater q = refl

-- each value ties with the one at its place
abbrev pub tied : Row → Row → Bool
tied [] [] = true
tied (b ∷ others) (a ∷ more) = same_value b a && tied others more
tied _ _ = false

-- one key is another where each of its parts is
pub tied_is : (more others : Row) → tied others more ≡ is_eq (row_cmp more others)
tied_is [] [] = refl
tied_is [] (b ∷ others) = refl
tied_is (a ∷ more) [] = refl
tied_is (a ∷ more) (b ∷ others) = ap₂ ◌&&◌ ((eq_by_cmp_equiv value_cmp_total).symm b a) (tied_is more others) ∙ sym (eq_then (value_cmp a b) (row_cmp more others))

pub alike_text : (a b : List ℕ) → same_value (Text a) (Text b) ≡ true → a ≡ b
alike_text a b e = (bytes_eq-Decides a b).0 (sym (ap is_eq (value_cmp-Text a b) ∙ is_eq-slice_cmp a b) ∙ e)

pub alike_int : (a b : ℤ) → same_value (Int a) (Int b) ≡ true → a ≡ b
alike_int a b e = let tie : is_eq (int_cmp a b) ≡ true = sym (ap is_eq (value_cmp-Int a b)) ∙ e in (signed_Decides a b).0 tie
