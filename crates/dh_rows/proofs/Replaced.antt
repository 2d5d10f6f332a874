-- What putting a row in the place of the one with its key does to a table's records.
use Rattle.std.proofs.Common.{◌≡◌, ◌⊎◌, inl, inr, ℤ, List, [], ◌∷◌, map, filter, Bool, true, false, not, ◌&&◌, cond, is_eq, refl, sym, ap, ap₂, subst, ◌∙◌, true≢false, IsPermutation}
use Rattle.std.specs.List.{AllByRecursion}
use Rattle.std.specs.Cmp.{IsTotalOrder, eq_by_cmp_equiv}
use Rattle.sqlite_value.specs.declared.value.Value.TheVariants.{Int}
use Rattle.sqlite_value.specs.Order.{Row, value_cmp}
use Rattle.sqlite_value.proofs.OrderLemmas.{value_cmp_total}
use Rattle.sqlite_trees.specs.Tree.{Trees, rowid, has_rowid, put_row, IsAscending}
use Rattle.sqlite_schema.specs.declared.schema.Table.{Table}
use Rattle.sqlite_schema.specs.declared.schema.Schema.{Schema}
use Rattle.sqlite_schema.specs.declared.schema.Keys.{Keys}
use Rattle.sqlite_rules.specs.Edit.{is_taken, without_all, Applies}
use Rattle.sqlite_rules.specs.Lists.{Has}
use Rattle.sqlite_keyed.proofs.ListLemmas.{ascending_weaker, ascending_from_map}
use Rattle.dh_rows.specs.Keyed.{Coding, IsTableOf, by_key, same_key, put, records_in_rows}
use Rattle.dh_rows.proofs.Lists.{by_key_total, adds_row, drops_rows}

-- ---- a test that one element at most passes

module _ {A : Type 0} where
  abbrev pub AtMostOne : (A → Bool) → List A → Type 0
  AtMostOne p = IsAscending (λ a b. p a && p b ≡ false)

  none_after : (p : A → Bool) (x : A) (xs : List A) → p x ≡ true → AllByRecursion (λ y. p x && p y ≡ false) xs → AllByRecursion (λ y. p y ≡ false) xs
  none_after p x [] hit all = tt
  none_after p x (y ∷ ys) hit all = (sym (ap (λ b. b && p y) hit) ∙ all.0, none_after p x ys hit all.1)

  both_none : (p q : A → Bool) (xs : List A) → AllByRecursion (λ y. p y ≡ false) xs → AllByRecursion (λ y. q y ≡ false) xs → AllByRecursion (λ y. p y ≡ q y) xs
  both_none p q [] a b = tt
  both_none p q (y ∷ ys) a b = (a.0 ∙ sym b.0, both_none p q ys a.1 b.1)

  before : (p : A → Bool) (x r : A) (xs : List A) → AllByRecursion (λ y. p x && p y ≡ false) xs → Has xs r → p r ≡ true → p x ≡ false
  before p x r (y ∷ ys) all (inl same) hit = go (p x) (ap (λ b. p x && b) (sym (ap p (sym same) ∙ hit)) ∙ all.0)
    where
      go : (b : Bool) → b && true ≡ false → b ≡ false
      go true e = absurd (true≢false e)
      go false e = refl
  before p x r (y ∷ ys) all (inr h) hit = before p x r ys all.1 h hit
  before p x r [] all h hit = absurd h

  -- two such tests that one element passes are the same
  pub one_place : (p q : A → Bool) (xs : List A) (r : A) → AtMostOne p xs → AtMostOne q xs → Has xs r → p r ≡ true → q r ≡ true → AllByRecursion (λ y. p y ≡ q y) xs
  one_place p q [] r one two h hit too = absurd h
  one_place p q (x ∷ xs) r one two (inl same) hit too =
      let a : p x ≡ true = ap p (sym same) ∙ hit in
      let b : q x ≡ true = ap q (sym same) ∙ too in
      (a ∙ sym b, both_none p q xs (none_after p x xs a one.0) (none_after q x xs b two.0))
  one_place p q (x ∷ xs) r one two (inr h) hit too = (before p x r xs one.0 h hit ∙ sym (before q x r xs two.0 h too), one_place p q xs r one.1 two.1 h hit too)

  none_left : (p : A → Bool) (xs : List A) → AllByRecursion (λ y. p y ≡ false) xs → filter p xs ≡ []
  none_left p [] all = refl
  none_left p (y ∷ ys) all = rw all.0 (none_left p ys all.1)

  -- and it alone is left
  pub one_left : (p : A → Bool) (xs : List A) (r : A) → AtMostOne p xs → Has xs r → p r ≡ true → filter p xs ≡ r ∷ []
  one_left p [] r one h hit = absurd h
  one_left p (x ∷ xs) r one (inl same) hit =
      let a : p x ≡ true = ap p (sym same) ∙ hit in
      rw a (ap₂ ◌∷◌ (sym same) (none_left p xs (none_after p x xs a one.0)))
  one_left p (x ∷ xs) r one (inr h) hit = rw (before p x r xs one.0 h hit) (one_left p xs r one.1 h hit)

  pub all_left : (p : A → Bool) (xs : List A) → AllByRecursion (λ y. p y ≡ false) xs → filter (λ y. not (p y)) xs ≡ xs
  all_left p [] all = refl
  all_left p (y ∷ ys) all = rw all.0 (ap (λ l. y ∷ l) (all_left p ys all.1))

  pub filter_alike : (p q : A → Bool) (xs : List A) → AllByRecursion (λ x. p x ≡ q x) xs → filter (λ x. not (p x)) xs ≡ filter (λ x. not (q x)) xs
  filter_alike p q [] all = refl
  filter_alike p q (x ∷ xs) all = ap₂ (λ b l. cond (not b) (x ∷ l) l) all.0 (filter_alike p q xs all.1)

-- what ties with one element is tied
module _ {A K : Type 0} (cmp : K → K → Rattle.std.proofs.Common.Ordering) (total : IsTotalOrder cmp) (f : A → K) (k : K) where
  tie : (b c : Bool) (x y : A) → is_eq (cmp k (f x)) ≡ b → is_eq (cmp k (f y)) ≡ c → is_eq (cmp (f x) (f y)) ≡ false → b && c ≡ false
  tie true true x y p q apart = absurd (true≢false (sym q ∙ (eq_by_cmp_equiv total).congr k (f x) (f y) p ∙ apart))
  tie true false x y p q apart = refl
  tie false c x y p q apart = refl

  -- where no two tie, one element at most ties with this
  pub at_most_one : (xs : List A) → IsAscending (λ a b. is_eq (cmp (f a) (f b)) ≡ false) xs → AtMostOne (λ a. is_eq (cmp k (f a))) xs
  at_most_one xs up = ascending_weaker _ _ (λ a b apart. tie _ _ a b refl refl apart) xs up

module _ {X : Type 0} (c : Coding X) where
  pub one_rowid : (n : ℤ) (rows : List Row) → IsTableOf c rows → AtMostOne (has_rowid n) rows
  one_rowid n rows was = ascending_weaker _ _ (λ a b h. ap₂ ◌&&◌ (turn a) (turn b) ∙ h) rows (at_most_one value_cmp value_cmp_total rowid (Int n) rows was.apart)
    where
      turn : (a : Row) → has_rowid n a ≡ is_eq (value_cmp (Int n) (rowid a))
      turn a = (eq_by_cmp_equiv value_cmp_total).symm (rowid a) (Int n)

  one_key : (x : X) (rows : List Row) → IsTableOf c rows → AtMostOne (λ r. same_key c.key x (c.decode r)) rows
  one_key x rows was = at_most_one (by_key c.key) (by_key_total c.key) c.decode x rows (ascending_from_map (λ a b. is_eq (by_key c.key a b) ≡ false) c.decode rows was.keyed)

  -- the row with the rowid is that with the key
  pub same_row : (x : X) (n : ℤ) (rows : List Row) → IsTableOf c rows → (r : Row) → Has rows r → has_rowid n r ≡ true → same_key c.key x (c.decode r) ≡ true → AllByRecursion (λ r. has_rowid n r ≡ same_key c.key x (c.decode r)) rows
  same_row x n rows was r has a b = one_place (has_rowid n) (λ r. same_key c.key x (c.decode r)) rows r (one_rowid n rows was) (one_key x rows was) has a b

  free_of : (x : X) (rows : List Row) → AllByRecursion (λ y. same_key c.key x y ≡ false) (map c.decode (filter (λ r. not (same_key c.key x (c.decode r))) rows))
  free_of x [] = tt
  free_of x (r ∷ rs) = go (same_key c.key x (c.decode r)) refl (free_of x rs)
    where
      go : (b : Bool) → same_key c.key x (c.decode r) ≡ b → AllByRecursion (λ y. same_key c.key x y ≡ false) (map c.decode (filter (λ r. not (same_key c.key x (c.decode r))) rs))
          → AllByRecursion (λ y. same_key c.key x y ≡ false) (map c.decode (cond (not b) (r ∷ filter (λ r. not (same_key c.key x (c.decode r))) rs) (filter (λ r. not (same_key c.key x (c.decode r))) rs)))
      go true e more = more
      go false e more = (e, more)

  -- a table less the rows that have the key, and the record's row
  pub replaced : (t : Table) (x : X) (n : ℤ) (gone : List ℤ) (back : (n : ℤ) → c.decode (Int n ∷ c.encode x) ≡ x)
      → (schema : Schema) (keys : Keys) (db next : Trees) → IsTableOf c (db t.tree) → without_all (db t.tree) gone ≡ filter (λ r. not (same_key c.key x (c.decode r))) (db t.tree)
      → Applies schema keys db (record { table = t; gone = gone; news = (Int n ∷ c.encode x) ∷ [] }) next
      → IsTableOf c (next t.tree) × (records_in_rows c (next t.tree) ≡ put c.key x (records_in_rows c (db t.tree)))
  replaced t x n gone back schema keys db next was left applies =
      let tree = t.tree in
      let new : Row = Int n ∷ c.encode x in
      let rest = filter (λ r. not (same_key c.key x (c.decode r))) (db tree) in
      let fewer = drops_rows c (λ y. not (same_key c.key x y)) (db tree) was in
      let fresh : not (is_taken rest new) && true ≡ true = subst (λ rows. not (is_taken rows new) && true ≡ true) left applies.fresh in
      let rows : next tree ≡ put_row new rest = applies.rows ∙ ap (put_row new) left in
      let both = adds_row c new rest fewer.0 (not_taken (is_taken rest new) fresh) (ap (λ y. Int n ∷ c.encode y) (sym (back n))) (rw (back n) (free_of x (db tree))) in
      (subst (IsTableOf c) (sym rows) both.0, ap (records_in_rows c) rows ∙ both.1 ∙ ap₂ (λ y l. Rattle.sqlite_keyed.specs.Lists.insert_sorted (by_key c.key) y l) (back n) fewer.1)
    where
      not_taken : (b : Bool) → not b && true ≡ true → b ≡ false
      not_taken true e = absurd (true≢false (sym e))
      not_taken false e = refl
