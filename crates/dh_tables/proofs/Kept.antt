-- What holds of all records of a list, and stays so.
use Rattle.std.proofs.Common.{◌≡◌, ℕ, Bool, IfOk, List, [], ◌∷◌, not, filter, cond, Option, None, Some, Result, Ok, Err, true, false, sym, subst}
use Rattle.std.specs.Prelude.{IfSome}
use Rattle.std.specs.List.{find, AllByRecursion}
use Rattle.std.specs.Ordering.{is_gt}
use Rattle.std.specs.Str.{IsUtf8}
use Rattle.std.specs.declared.cmp.Ordering.{Ordering}
use Rattle.sqlite_value.specs.Order.{Row}
use Rattle.sqlite_keyed.specs.Lists.{insert_sorted}
use Rattle.dh_rows.specs.Keyed.{added, by_key, put, same_key}

module _ {X : Type 0} (P : X → Type 0) where
  -- what holds of all holds of some
  pub all_kept : (test : X → Bool) (xs : List X) → AllByRecursion P xs → AllByRecursion P (filter test xs)
  all_kept test [] all = tt
  all_kept test (x ∷ xs) all = go (test x) (all_kept test xs all.1)
    where
      go : (b : Bool) → AllByRecursion P (filter test xs) → AllByRecursion P (cond b (x ∷ filter test xs) (filter test xs))
      go true more = (all.0, more)
      go false more = more

  -- and of the one that is found
  pub all_found : (test : X → Bool) (xs : List X) (x : X) → find test xs ≡ Some x → AllByRecursion P xs → P x
  all_found test [] x h all = absurd (cc)
  all_found test (y ∷ ys) x h all = go (test y) h (λ more. all_found test ys x more all.1)
    where
      go : (b : Bool) → cond b (Some y) (find test ys) ≡ Some x → (find test ys ≡ Some x → P x) → P x
      go true same more = let is : y ≡ x = cc in subst P is all.0
      go false same more = more same

  all_inserted : (cmp : X → X → Ordering) (x : X) → P x → (xs : List X) → AllByRecursion P xs → AllByRecursion P (insert_sorted cmp x xs)
  all_inserted cmp x it [] all = (it, tt)
  all_inserted cmp x it (y ∷ ys) all = go (is_gt (cmp x y)) (all_inserted cmp x it ys all.1)
    where
      go : (b : Bool) → AllByRecursion P (insert_sorted cmp x ys) → AllByRecursion P (cond b (y ∷ insert_sorted cmp x ys) (x ∷ y ∷ ys))
      go true more = (all.0, more)
      go false more = (it, all)

  -- a record of which it holds may be added, or put in place of the one with its key
  pub all_added : (key : X → Row) (x : X) → P x → (xs : List X) → AllByRecursion P xs → AllByRecursion P (added key x xs)
  all_added key x it xs all = all_inserted (by_key key) x it xs all

  pub all_put : (key : X → Row) (x : X) → P x → (xs : List X) → AllByRecursion P xs → AllByRecursion P (put key x xs)
  all_put key x it xs all = all_inserted (by_key key) x it _ (all_kept (λ y. not (same_key key x y)) xs all)

-- a text is UTF-8 as one that equals it
pub as_utf8 : {text of : List ℕ} → text ≡ of → IsUtf8 text → IsUtf8 of
as_utf8 same utf8 = subst (λ (t : List ℕ). IsUtf8 t) same utf8

-- what holds of all holds of the one that a look found
pub if_found : {X E : Type 0} (P Q : X → Type 0) → ((x : X) → P x → Q x) → (test : X → Bool) (xs : List X) (r : Result (Option X) E) → IfOk r (λ o. o ≡ find test xs) → AllByRecursion P xs → IfOk r (λ o. (o ≡ find test xs) × IfSome o Q)
if_found P Q then test xs (Ok None) is all = (is, tt)
if_found P Q then test xs (Ok (Some x)) is all = (is, then x (all_found P test xs x (sym is) all))
if_found P Q then test xs (Err e) is all = tt
