-- Records with one key.
use Rattle.std.proofs.Common.{◌≡◌, ℕ, Bool, true, false, not, ◌&&◌, List, [], ◌∷◌, map, filter, find, None, refl, sym, ap, ap₂, ◌∙◌, true≢false, Ordering, Less, Equal, Greater}
use Rattle.std.proofs.lemmas.Bool.{and_parts, and_from, false_from_ne_true}
use Rattle.std.proofs.lemmas.Map.Text.{is_eq-slice_cmp}
use Rattle.std.proofs.lemmas.Slice.Eq.{bytes_eq-Decides}
use Rattle.std.specs.Bool.{one_answer}
use Rattle.std.specs.Ordering.{is_eq, ordering_then}
use Rattle.std.specs.Str.{bytes_eq}
use Rattle.sqlite_value.specs.declared.value.Value.TheVariants.{Text}
use Rattle.sqlite_value.specs.Order.{Row, value_cmp, row_cmp}
use Rattle.sqlite_value.proofs.OrderLemmas.{value_cmp-Text}
use Rattle.sqlite_keyed.proofs.ListLemmas.{all_weaker}
use Rattle.dh_rows.specs.Keyed.{same_key, IsFreeKey}
use Rattle.dh_records.proofs.RecordLemmas.{none_found, taken_out}

-- ---- tests of several columns, as a WHERE and a key make them

pub one : (a : Bool) → (a && true) ≡ a
one true = refl
one false = refl

pub two : (a b : Bool) → (a && (b && true)) ≡ (a && b)
two true b = one b
two false b = refl

pub three : (a b c : Bool) → (a && (b && (c && true))) ≡ (a && b && c)
three true b c = two b c
three false b c = refl

pub four : (a b c d : Bool) → (a && (b && (c && (d && true)))) ≡ (a && b && c && d)
four true b c d = three b c d
four false b c d = refl

-- a host first, and then the rest of a key
pub host_first : (a b c : Bool) → (a && b && c) ≡ (a && (b && c))
host_first true b c = refl
host_first false b c = refl

pub host_first_of_four : (a b c d : Bool) → (a && b && c && d) ≡ (a && (b && (c && d)))
host_first_of_four true b c d = host_first b c d
host_first_of_four false b c d = refl

-- ---- texts

pub turned : (a b : List ℕ) → bytes_eq a b ≡ bytes_eq b a
turned a b = one_answer _ _ (bytes_eq-Decides a b) ((λ e. sym ((bytes_eq-Decides b a).0 e)), (λ e. (bytes_eq-Decides b a).1 (sym e)))

-- the test of two texts, where it is passed
pub are_both : (a b h s : List ℕ) → (bytes_eq a h && bytes_eq b s) ≡ true → (a ≡ h) × (b ≡ s)
are_both a b h s e = let both = and_parts _ _ e in ((bytes_eq-Decides a h).0 both.0, (bytes_eq-Decides b s).0 both.1)

pub both_are : (a b h s : List ℕ) → a ≡ h → b ≡ s → (bytes_eq a h && bytes_eq b s) ≡ true
both_are a b h s e f = and_from _ _ ((bytes_eq-Decides a h).1 e) ((bytes_eq-Decides b s).1 f)

-- what has two texts has not two others
pub not_others : (a b h s g t : List ℕ) → (bytes_eq h g && bytes_eq s t) ≡ false → (bytes_eq a h && bytes_eq b s) ≡ true → (bytes_eq a g && bytes_eq b t) ≡ false
not_others a b h s g t apart here = false_from_ne_true _ (λ there.
    let these = are_both a b h s here in
    let those = are_both a b g t there in
    true≢false (sym (both_are h s g t (sym these.0 ∙ those.0) (sym these.1 ∙ those.1)) ∙ apart))

-- ---- keys

pub eq_then : (p q : Ordering) → is_eq (ordering_then p q) ≡ (is_eq p && is_eq q)
eq_then Less q = refl
eq_then Equal q = refl
eq_then Greater q = refl

pub same_text : (a b : List ℕ) → is_eq (value_cmp (Text a) (Text b)) ≡ bytes_eq b a
same_text a b = ap is_eq (value_cmp-Text a b) ∙ is_eq-slice_cmp a b ∙ turned a b

-- the same texts, one after the other
abbrev pub same_texts : List (List ℕ) → List (List ℕ) → Bool
same_texts [] [] = true
same_texts (a ∷ xs) (b ∷ ys) = bytes_eq b a && same_texts xs ys
same_texts _ _ = false

-- of keys that are texts
pub texts_key : (xs ys : List (List ℕ)) → is_eq (row_cmp (map Text xs) (map Text ys)) ≡ same_texts xs ys
texts_key [] [] = refl
texts_key [] (b ∷ ys) = refl
texts_key (a ∷ xs) [] = refl
texts_key (a ∷ xs) (b ∷ ys) = eq_then (value_cmp (Text a) (Text b)) (row_cmp (map Text xs) (map Text ys)) ∙ ap₂ ◌&&◌ (same_text a b) (texts_key xs ys)

module _ {X : Type 0} (key : X → Row) (x : X) (test : X → Bool) (same : (y : X) → same_key key x y ≡ test y) where
  -- a key that no record has is free
  pub free_if_missing : (xs : List X) → find test xs ≡ None → IsFreeKey key x xs
  free_if_missing xs e = all_weaker _ (λ y. same_key key x y ≡ false) (λ y out. same y ∙ out) xs (none_found test xs e)

  -- a key is free once the records that have it are taken out
  pub free_after : (xs : List X) → IsFreeKey key x (filter (λ y. not (test y)) xs)
  free_after xs = all_weaker _ (λ y. same_key key x y ≡ false) (λ y out. same y ∙ out) _ (taken_out test xs)
