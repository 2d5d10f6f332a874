-- What a statement of each shape does to the rows of one table.
use Rattle.std.proofs.Common.{◌≡◌, ◌≢◌, ◌⊎◌, inl, inr, ℕ, zero, suc, ℤ, pos, negsuc, List, [], ◌∷◌, ◌++◌, map, filter, fold, Bool, true, false, not, ◌&&◌, ◌||◌, cond, Option, None, Some, Ok, Err, Result, slice_get, unwrap_or, nat_le, nat_lt, ◌^◌, ◌-◌, ◌/◌, length, refl, sym, ap, ap₂, subst, ◌∙◌, true≢false, is_eq, IsPermutation, IsSorted, Ordering, arith}
use Rattle.std.specs.List.{AllByRecursion, list_any, list_all}
use Rattle.std.proofs.lemmas.Cmp.{tied_itself}
use Rattle.std.proofs.lemmas.List.Sorted.{IsPermutation-map, list_any-IsPermutation}
use Rattle.sqlite_value.specs.declared.value.Value.{Value}
use Rattle.sqlite_value.specs.declared.value.Value.TheVariants.{Null, Int}
use Rattle.sqlite_value.specs.Order.{Row, value_cmp}
use Rattle.sqlite_value.specs.declared.keys.Key.{Key}
use Rattle.sqlite_value.proofs.OrderLemmas.{value_cmp_total}
use Rattle.sqlite_trees.specs.Tree.{Trees, rowid, has_rowid, put_row, without_rowid, IsAscending}
use Rattle.sqlite_sql.specs.Term.{Term, col, holds}
use Rattle.sqlite_sql.specs.Query.{Query, inner, end, IsAnswer, output, output_cmp, Output, matches_as, key_cmp}
use Rattle.sqlite_sql.specs.Program.{overlay}
use Rattle.sqlite_sql.proofs.QueryLemmas.{output_cmp_total}
use Rattle.sqlite_schema.specs.declared.schema.Table.{Table}
use Rattle.sqlite_schema.specs.declared.schema.Schema.{Schema}
use Rattle.sqlite_schema.specs.declared.schema.Keys.{Keys}
use Rattle.sqlite_rules.specs.declared.error.Rowids.TheVariants.{Chosen, Given}
use Rattle.sqlite_rules.specs.Edit.{edit_of, id_in, is_taken, without_all, Applies, with_rowid}
use Rattle.sqlite_rules.specs.Calls.{ids_of}
use Rattle.sqlite_rules.specs.Cast.{cast_row}
use Rattle.sqlite_keyed.proofs.ListLemmas.{filter_as_flat_map, filter-map, map-map, map_same, ascending-map, ascending_weaker}
use Rattle.sqlite_keyed.proofs.SortLemmas.{sorted_is-sort_by, sort_by-map}
use Rattle.sqlite_keyed.specs.Lists.{sort_by, insert_sorted}
use Rattle.dh_rows.specs.Keyed.{Coding, IsCoded, IsTableOf, by_key, records_in_rows}
use Rattle.dh_rows.proofs.Terms.{from_table}
use Rattle.dh_rows.proofs.Lists.{by_key_total, sort_filter, adds_row, drops_rows, other_way}

overlay_none : (db : Trees) (t : ℕ) → overlay db [] t ≡ db t
overlay_none db t = go (nat_le (2 ^ 31) t)
  where
    go : (b : Bool) → unwrap_or (cond b (slice_get [] (t - 2 ^ 31)) None) (db t) ≡ db t
    go true = refl
    go false = refl

-- ---- reading

abbrev pub matching : List Term → Row → Row → Bool
matching terms params r = list_all (holds (params ∷ r ∷ [])) terms

found : (lost : Value) (db : Trees) (tree : ℕ) (terms : List Term) (params : Row) → matches_as lost (overlay db []) terms (inner tree end) (params ∷ []) ≡ map (λ r. params ∷ r ∷ []) (filter (matching terms params) (db tree))
found lost db tree terms params = go (overlay db [] tree) (db tree) (overlay_none db tree)
  where
    each : (rows : List Row) → Rattle.std.specs.List.flat_map (λ r. matches_as lost (overlay db []) terms end (params ∷ r ∷ [])) rows ≡ map (λ r. params ∷ r ∷ []) (filter (matching terms params) rows)
    each [] = refl
    each (r ∷ rs) = step (matching terms params r) (each rs)
      where
        step : (b : Bool) → Rattle.std.specs.List.flat_map (λ r. matches_as lost (overlay db []) terms end (params ∷ r ∷ [])) rs ≡ map (λ r. params ∷ r ∷ []) (filter (matching terms params) rs)
            → cond b ((params ∷ r ∷ []) ∷ []) [] ++ Rattle.std.specs.List.flat_map (λ r. matches_as lost (overlay db []) terms end (params ∷ r ∷ [])) rs
            ≡ map (λ r. params ∷ r ∷ []) (cond b (r ∷ filter (matching terms params) rs) (filter (matching terms params) rs))
        step true e = ap (λ l. (params ∷ r ∷ []) ∷ l) e
        step false e = e

    go : (a b : List Row) → a ≡ b → Rattle.std.specs.List.flat_map (λ r. matches_as lost (overlay db []) terms end (params ∷ r ∷ [])) a ≡ map (λ r. params ∷ r ∷ []) (filter (matching terms params) b)
    go a b e = ap (Rattle.std.specs.List.flat_map (λ r. matches_as lost (overlay db []) terms end (params ∷ r ∷ []))) e ∙ each b

module _ {X : Type 0} (c : Coding X) (terms : List Term) (shown : List Term) (order : List (Term × Key)) (tree : ℕ) (params : Row) where
  abbrev pub query : Query
  query = from_table tree terms shown order

  abbrev pub outp : Row → Output
  outp r = output query (params ∷ r ∷ [])

  -- the answer is an order of the rows that match
  pub answered : (db : Trees) (rows : List Row) → IsAnswer query (overlay db []) params rows
      → (ordered : List Output) × IsPermutation (map outp (filter (matching terms params) (db tree))) ordered × IsSorted (output_cmp query) ordered × (rows ≡ map (λ (o : Output). o.1) ordered)
  answered db rows a =
      let staged : a.staged ≡ map (λ r. params ∷ r ∷ []) (filter (matching terms params) (db tree)) = a.grouped ∙ found Null db tree terms params in
      let kept : a.kept ≡ map outp (filter (matching terms params) (db tree)) = a.distinct ∙ ap (map (output query)) staged ∙ map-map (output query) (λ r. params ∷ r ∷ []) _ in
      (a.ordered, subst (λ k. IsPermutation k a.ordered) kept a.same, a.sorted, a.shown)

  module _ (test : X → Bool) (keys show : X → Row)
      (sees : (n : ℤ) (x : X) → matching terms params (Int n ∷ c.encode x) ≡ test x)
      (shows : (n : ℤ) (x : X) → outp (Int n ∷ c.encode x) ≡ (keys x, show x)) where
    -- of rows that stand for records
    typed : (rows : List Row) → AllByRecursion (IsCoded c) rows → map outp (filter (matching terms params) rows) ≡ map (λ x. (keys x, show x)) (filter test (map c.decode rows))
    typed [] all = refl
    typed (r ∷ rs) all = go (matching terms params r) (test (c.decode r)) (ap (matching terms params) all.0 ∙ sees _ (c.decode r)) (typed rs all.1)
      where
        one : outp r ≡ (keys (c.decode r), show (c.decode r))
        one = ap outp all.0 ∙ shows _ (c.decode r)

        go : (a b : Bool) → a ≡ b → map outp (filter (matching terms params) rs) ≡ map (λ x. (keys x, show x)) (filter test (map c.decode rs))
            → map outp (cond a (r ∷ filter (matching terms params) rs) (filter (matching terms params) rs))
            ≡ map (λ x. (keys x, show x)) (cond b (c.decode r ∷ filter test (map c.decode rs)) (filter test (map c.decode rs)))
        go true true e more = ap₂ ◌∷◌ one more
        go false false e more = more
        go true false e more = absurd (true≢false e)
        go false true e more = absurd (true≢false (sym e))

    -- in the order of the keys, the answer is the records that pass the test
    pub reads_records : (sorts : (x y : X) → key_cmp 0 (map (λ k. k.1) order) (keys x) (keys y) ≡ by_key c.key x y)
        → (db : Trees) (rows : List Row) → IsTableOf c (db tree) → IsAnswer query (overlay db []) params rows → rows ≡ map show (filter test (records_in_rows c (db tree)))
    reads_records sorts db rows was a =
        let it = answered db rows a in
        let bag = filter test (map c.decode (db tree)) in
        let f : X → Output = λ x. (keys x, show x) in
        let apart : IsAscending (λ x y. is_eq (by_key c.key x y) ≡ false) bag = Rattle.sqlite_keyed.proofs.ListLemmas.ascending-filter _ test _ was.keyed in
        let loose : IsAscending (λ o p. is_eq (output_cmp query o p) ≡ false) (map f bag) =
        ascending-map (λ o p. is_eq (output_cmp query o p) ≡ false) f bag (ascending_weaker _ _ (λ x y h. ap is_eq (sorts x y) ∙ h) bag apart) in
        let one = sorted_is-sort_by (output_cmp query) (output_cmp_total query) (map f bag) it.0 loose (subst (λ k. IsPermutation k it.0) (typed (db tree) was.coded) it.1) it.2 in
        let back : sort_by (output_cmp query) (map f bag) ≡ map f (sort_by (by_key c.key) bag) = sort_by-map (output_cmp query) f bag ∙ ap (map f) (same_sort _ _ sorts bag) in
        it.3 ∙ ap (map (λ (o : Output). o.1)) (one ∙ back) ∙ map-map (λ (o : Output). o.1) f _ ∙ ap (map show) (sort_filter (by_key c.key) (by_key_total c.key) test (map c.decode (db tree)) was.keyed)
      where
        same_insert : (p q : X → X → Ordering) → ((x y : X) → p x y ≡ q x y) → (new : X) (xs : List X) → insert_sorted p new xs ≡ insert_sorted q new xs
        same_insert p q same new [] = refl
        same_insert p q same new (x ∷ xs) = ap₂ (λ b l. cond (Rattle.std.proofs.Common.is_gt b) (x ∷ l) (new ∷ x ∷ xs)) (same new x) (same_insert p q same new xs)

        same_sort : (p q : X → X → Ordering) → ((x y : X) → p x y ≡ q x y) → (xs : List X) → sort_by p xs ≡ sort_by q xs
        same_sort p q same [] = refl
        same_sort p q same (x ∷ xs) = ap (insert_sorted p x) (same_sort p q same xs) ∙ same_insert p q same x _

-- ---- DELETE

-- rows taken out by their rowids
without_each : (ids : List ℤ) (rows : List Row) → without_all rows ids ≡ filter (λ r. not (list_any (λ id. has_rowid id r) ids)) rows
without_each [] rows = sym (whole rows)
  where
    whole : (xs : List Row) → filter (λ r. true) xs ≡ xs
    whole [] = refl
    whole (x ∷ xs) = ap (λ l. x ∷ l) (whole xs)
without_each (id ∷ ids) rows = without_each ids (without_rowid id rows) ∙ both rows
  where
    both : (xs : List Row) → filter (λ r. not (list_any (λ i. has_rowid i r) ids)) (without_rowid id xs) ≡ filter (λ r. not (list_any (λ i. has_rowid i r) (id ∷ ids))) xs
    both [] = refl
    both (x ∷ xs) = go (has_rowid id x) (list_any (λ i. has_rowid i x) ids) refl (both xs)
      where
        go : (a b : Bool) → list_any (λ i. has_rowid i x) ids ≡ b → filter (λ r. not (list_any (λ i. has_rowid i r) ids)) (without_rowid id xs) ≡ filter (λ r. not (list_any (λ i. has_rowid i r) (id ∷ ids))) xs
            → filter (λ r. not (list_any (λ i. has_rowid i r) ids)) (cond (not a) (x ∷ without_rowid id xs) (without_rowid id xs))
            ≡ cond (not (a || b)) (x ∷ filter (λ r. not (list_any (λ i. has_rowid i r) (id ∷ ids))) xs) (filter (λ r. not (list_any (λ i. has_rowid i r) (id ∷ ids))) xs)
        go true b e more = more
        go false true e more = rw e more
        go false false e more = rw e (ap (λ l. x ∷ l) more)

pub filter_same_on : {A : Type 0} (p q : A → Bool) (xs : List A) → AllByRecursion (λ x. p x ≡ q x) xs → filter p xs ≡ filter q xs
filter_same_on p q [] all = refl
filter_same_on p q (x ∷ xs) all = ap₂ (λ b l. cond b (x ∷ l) l) all.0 (filter_same_on p q xs all.1)

module _ (m : Row → Bool) where
  -- a row that matches has the rowid of the row
  hit : List Row → Row → Bool
  hit rows r = list_any (λ s. is_eq (value_cmp (rowid r) (rowid s))) (filter m rows)

  misses : (x : Row) (xs : List Row) → AllByRecursion (λ y. is_eq (value_cmp (rowid x) (rowid y)) ≡ false) xs → hit xs x ≡ false
  unfolding hit
  misses x [] apart = refl
  misses x (y ∷ ys) apart = go (m y) (misses x ys apart.1)
    where
      go : (b : Bool) → list_any (λ s. is_eq (value_cmp (rowid x) (rowid s))) (filter m ys) ≡ false → list_any (λ s. is_eq (value_cmp (rowid x) (rowid s))) (cond b (y ∷ filter m ys) (filter m ys)) ≡ false
      go true e = rw apart.0 e
      go false e = e

  one_more : (x : Row) (xs rest : List Row) → AllByRecursion (λ y. is_eq (value_cmp (rowid x) (rowid y)) ≡ false) rest → AllByRecursion (λ r. hit xs r ≡ m r) rest → AllByRecursion (λ r. hit (x ∷ xs) r ≡ m r) rest
  unfolding hit
  one_more x xs [] apart all = tt
  one_more x xs (r ∷ rs) apart all = (go (m x) all.0, one_more x xs rs apart.1 all.1)
    where
      other : is_eq (value_cmp (rowid r) (rowid x)) ≡ false
      other = other_way value_cmp value_cmp_total (rowid x) (rowid r) apart.0

      go : (b : Bool) → list_any (λ s. is_eq (value_cmp (rowid r) (rowid s))) (filter m xs) ≡ m r → list_any (λ s. is_eq (value_cmp (rowid r) (rowid s))) (cond b (x ∷ filter m xs) (filter m xs)) ≡ m r
      go true e = rw other e
      go false e = e

  -- where no two have one rowid, only the rows that match are hit
  hits : (rows : List Row) → IsAscending (λ a b. is_eq (value_cmp (rowid a) (rowid b)) ≡ false) rows → AllByRecursion (λ r. hit rows r ≡ m r) rows
  unfolding hit
  hits [] apart = tt
  hits (x ∷ xs) apart = (go (m x) refl, one_more x xs xs apart.0 (hits xs apart.1))
    where
      go : (b : Bool) → m x ≡ b → list_any (λ s. is_eq (value_cmp (rowid x) (rowid s))) (cond b (x ∷ filter m xs) (filter m xs)) ≡ b
      go true e = rw (tied_itself value_cmp_total (rowid x)) refl
      go false e = misses x xs apart.0

  -- the rowids that were found are those of the rows that match
  taken_out : (c_ids : (r : Row) → Type 0) (rows found : List Row) → AllByRecursion (λ r. rowid r ≡ Int (id_in (rowid r))) rows → IsAscending (λ a b. is_eq (value_cmp (rowid a) (rowid b)) ≡ false) rows
      → IsPermutation (map (λ r. rowid r ∷ []) (filter m rows)) found → without_all rows (ids_of found) ≡ filter (λ r. not (m r)) rows
  unfolding hit
  taken_out _ rows found ints apart same =
      without_each (ids_of found) rows ∙ filter_same_on _ _ rows (each rows (hits rows apart))
    where
      same_hit : (r : Row) → list_any (λ id. has_rowid id r) (ids_of found) ≡ list_any (λ s. is_eq (value_cmp (rowid r) (rowid s))) (filter m rows)
      same_hit r = any_map (ids_of found) found refl ∙ sym (list_any-IsPermutation (λ f. has_rowid (id_in (rowid f)) r) _ _ same) ∙ inner_any rows ints
        where
          any_map : (ids : List ℤ) (fs : List Row) → ids ≡ ids_of fs → list_any (λ id. has_rowid id r) ids ≡ list_any (λ f. has_rowid (id_in (rowid f)) r) fs
          any_map ids [] e = rw e refl
          any_map ids (f ∷ fs) e = rw e (ap (λ b. has_rowid (id_in (rowid f)) r || b) (any_map (ids_of fs) fs refl))

          inner_any : (xs : List Row) → AllByRecursion (λ s. rowid s ≡ Int (id_in (rowid s))) xs
              → list_any (λ f. has_rowid (id_in (rowid f)) r) (map (λ s. rowid s ∷ []) (filter m xs)) ≡ list_any (λ s. is_eq (value_cmp (rowid r) (rowid s))) (filter m xs)
          inner_any [] all = refl
          inner_any (x ∷ xs) all = step (m x) (inner_any xs all.1)
            where
              step : (b : Bool) → list_any (λ f. has_rowid (id_in (rowid f)) r) (map (λ s. rowid s ∷ []) (filter m xs)) ≡ list_any (λ s. is_eq (value_cmp (rowid r) (rowid s))) (filter m xs)
                  → list_any (λ f. has_rowid (id_in (rowid f)) r) (map (λ s. rowid s ∷ []) (cond b (x ∷ filter m xs) (filter m xs)))
                  ≡ list_any (λ s. is_eq (value_cmp (rowid r) (rowid s))) (cond b (x ∷ filter m xs) (filter m xs))
              step true e = ap₂ (λ v b. is_eq (value_cmp (rowid r) v) || b) (sym all.0) e
              step false e = e

      each : (xs : List Row) → AllByRecursion (λ r. list_any (λ s. is_eq (value_cmp (rowid r) (rowid s))) (filter m rows) ≡ m r) xs
          → AllByRecursion (λ r. not (list_any (λ id. has_rowid id r) (ids_of found)) ≡ not (m r)) xs
      each [] all = tt
      each (x ∷ xs) all = (ap not (same_hit x ∙ all.0), each xs all.1)

-- ---- on records

module _ {X : Type 0} (c : Coding X) where
  ints : (xs : List Row) → AllByRecursion (IsCoded c) xs → AllByRecursion (λ r. rowid r ≡ Int (id_in (rowid r))) xs
  ints [] all = tt
  ints (x ∷ xs) all = (ap rowid all.0, ints xs all.1)

  module _ (t : Table) where
    -- a table less the records that pass a test
    pub dropped : (terms : List Term) (params : Row) (test : X → Bool) (sees : (n : ℤ) (x : X) → matching terms params (Int n ∷ c.encode x) ≡ test x)
        → (schema : Schema) (keys : Keys) (db next : Trees) (found : List Row) → IsTableOf c (db t.tree) → IsAnswer (from_table t.tree terms (col 1 0 ∷ []) []) (overlay db []) params found
        → Applies schema keys db (edit_of db t (ids_of found) Given 0 []) next
        → IsTableOf c (next t.tree) × (records_in_rows c (next t.tree) ≡ filter (λ x. not (test x)) (records_in_rows c (db t.tree)))
    dropped terms params test sees schema keys db next found was a applies =
        let tree = t.tree in
        let it = answered c terms (col 1 0 ∷ []) [] tree params db found a in
        let same : IsPermutation (map (λ r. rowid r ∷ []) (filter (matching terms params) (db tree))) found =
        subst (IsPermutation (map (λ r. rowid r ∷ []) (filter (matching terms params) (db tree)))) (sym it.3) (subst (λ l. IsPermutation l (map (λ (o : Output). o.1) it.0)) (map-map (λ (o : Output). o.1) (outp c terms (col 1 0 ∷ []) [] tree params) _) (IsPermutation-map (λ (o : Output). o.1) _ _ it.1)) in
        let left = taken_out (matching terms params) (λ r. Unit {0}) (db tree) found (ints (db tree) was.coded) was.apart same in
        let rows : next tree ≡ filter (λ r. not (test (c.decode r))) (db tree) = applies.rows ∙ left ∙ filter_same_on _ _ (db tree) (tests (db tree) was.coded) in
        let both = drops_rows c (λ x. not (test x)) (db tree) was in
        (subst (IsTableOf c) (sym rows) both.0, ap (records_in_rows c) rows ∙ both.1)
      where
        tests : (xs : List Row) → AllByRecursion (IsCoded c) xs → AllByRecursion (λ r. not (matching terms params r) ≡ not (test (c.decode r))) xs
        tests [] all = tt
        tests (x ∷ xs) all = (ap not (ap (matching terms params) all.0 ∙ sees _ (c.decode x)), tests xs all.1)

    -- a table and a new record
    pub inserted : (x : X) (source : Row) (back : (n : ℤ) → c.decode (Int n ∷ c.encode x) ≡ x)
        → (keeps : (db : Trees) → (n : ℤ) × (with_rowid Chosen (db t.tree) (cast_row t source) ≡ Int n ∷ c.encode x))
        → (schema : Schema) (keys : Keys) (db next : Trees) → IsTableOf c (db t.tree) → AllByRecursion (λ y. is_eq (by_key c.key x y) ≡ false) (map c.decode (db t.tree))
        → Applies schema keys db (edit_of db t [] Chosen 0 (source ∷ [])) next
        → IsTableOf c (next t.tree) × (records_in_rows c (next t.tree) ≡ insert_sorted (by_key c.key) x (records_in_rows c (db t.tree)))
    inserted x source back keeps schema keys db next was free applies =
        let tree = t.tree in
        let n = (keeps db).0 in
        let new : Row = Int n ∷ c.encode x in
        let is = (keeps db).1 in
        let fresh : not (is_taken (db tree) new) && true ≡ true = subst (λ r. not (is_taken (db tree) r) && true ≡ true) is applies.fresh in
        let rows : next tree ≡ put_row new (db tree) = applies.rows ∙ ap (λ r. put_row r (db tree)) is in
        let both = adds_row c new (db tree) was (not_taken (is_taken (db tree) new) fresh) (ap (λ y. Int n ∷ c.encode y) (sym (back n))) (rw (back n) free) in
        (subst (IsTableOf c) (sym rows) both.0, ap (records_in_rows c) rows ∙ both.1 ∙ ap (λ y. insert_sorted (by_key c.key) y (records_in_rows c (db tree))) (back n))
      where
        not_taken : (b : Bool) → not b && true ≡ true → b ≡ false
        not_taken true e = absurd (true≢false (sym e))
        not_taken false e = refl
