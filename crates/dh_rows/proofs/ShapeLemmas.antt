-- What the tests on a table's shape, and on what stands on it, tell.
use Rattle.std.proofs.Common.{◌≡◌, ◌↔◌, ◌<◌, ◌^◌, ℕ, suc, ◌==◌, ◌&&◌, ◌||◌, min, List, [], ◌∷◌, map, filter, find, length, Bool, true, false, not, cond, if◌then◌else◌, Option, None, Some, option_map, option_and_then, unwrap_or, get_or, IsTrue, Decides, refl, sym, ap, ap₂, subst, ◌∙◌, arith, slice_get, ltb, nat_eq, eq-eqb, ne_eqb, eqb-true, true≢false}
use Rattle.std.specs.List.{AllByRecursion, list_all, position_from, position_or_len}
use Rattle.std.specs.Cmp.Lexicographic.{pointwise}
use Rattle.std.proofs.lemmas.Bool.{and_parts, and_from}
use Rattle.std.proofs.lemmas.List.Folds.{find_at}
use Rattle.std.proofs.lemmas.Iterator.Adapters.{position_from-zero}
use Rattle.std.proofs.lemmas.Slice.Eq.{bytes_eq-Decides}
use Rattle.sqlite_value.specs.declared.keys.Order.{Order}
use Rattle.sqlite_value.specs.Keys.{plain}
use Rattle.sqlite_keyed.proofs.ListLemmas.{all_from_test, test_from_all, all_weaker}
use Rattle.sqlite_schema.specs.declared.schema.Table.{Table}
use Rattle.sqlite_schema.specs.declared.schema.Index.{Index}
use Rattle.sqlite_schema.specs.declared.schema.Schema.{Schema}
use Rattle.sqlite_schema.specs.Names.{table_named, same_name}
use Rattle.dh_rows.specs.Places.{IsUnmentioned, tree_of, table_in, unique_keys}
use Rattle.dh_rows.specs.Shapes.{IsLone, IsUniquelyIndexed, StandsAlone, is_key_at}
use Rattle.dh_rows.proofs.Found.{unreferred}

-- ---- tests

when : (b s : Bool) → b ≡ true → not b || s ≡ true → s ≡ true
when true s e h = h
when false s e h = absurd (true≢false (sym e))

either : (b s : Bool) → (b ≡ true → s ≡ true) → not b || s ≡ true
either true s h = h refl
either false s h = refl

pub fails : {P : Type 0} (b : Bool) → b ≡ false → (P → ⊥) → IsTrue b ↔ P
fails b e never = (λ h. absurd (true≢false (sym h ∙ e)), λ p. absurd (never p))

-- ---- lists

pub same_at_each : {A : Type 0} (xs ys : List A) → length xs ≡ length ys → ((k : ℕ) → k < length xs → slice_get xs k ≡ slice_get ys k) → xs ≡ ys
same_at_each [] [] e same = refl
same_at_each [] (y ∷ ys) e same = absurd (omega arith)
same_at_each (x ∷ xs) [] e same = absurd (omega arith)
same_at_each (x ∷ xs) (y ∷ ys) e same =
    let first : Some x ≡ Some y = same 0 (omega arith) in
    let here : x ≡ y = cc in
    ap₂ (λ b bs. b ∷ bs) here (same_at_each xs ys (omega arith) (λ k within. same (suc k) (omega arith)))

module _ {A : Type 0} (a : A) where
  -- as many of the same are the same list
  as_many : (xs ys : List A) → AllByRecursion (λ x. x ≡ a) xs → AllByRecursion (λ y. y ≡ a) ys → length xs ≡ length ys → xs ≡ ys
  as_many [] [] h k e = refl
  as_many [] (y ∷ ys) h k e = absurd (omega arith)
  as_many (x ∷ xs) [] h k e = absurd (omega arith)
  as_many (x ∷ xs) (y ∷ ys) h k e = ap₂ (λ b bs. b ∷ bs) (h.0 ∙ sym k.0) (as_many xs ys h.1 k.1 (omega arith))

  -- none, or one alone
  abbrev alone : Bool → List A
  alone none = if none then [] else a ∷ []

  length-alone : (n : ℕ) → length (alone (n == 0)) ≡ min n 1
  length-alone n = go (n == 0) refl
    where
      go : (none : Bool) → n == 0 ≡ none → length (alone none) ≡ min n 1
      go true e = let k : n ≡ 0 = eqb-true n 0 e in omega arith
      go false e = let k : n ≡ 0 → ⊥ = λ h. true≢false (sym (eq-eqb n 0 h) ∙ e) in omega arith

-- what is first by one test is first by another, which holds of it and of nothing that fails the first
first_by : {A : Type 0} (one other : A → Bool) (xs : List A) (x : A) → find one xs ≡ Some x → other x ≡ true → AllByRecursion (λ y. other y ≡ true → one y ≡ true) xs → find other xs ≡ Some x
first_by one other [] x e h all = absurd (cc)
first_by one other (y ∷ ys) x e h all = go (one y) refl (other y) refl (λ f. first_by one other ys x f h all.1) e
  where
    go : (b : Bool) → one y ≡ b → (o : Bool) → other y ≡ o → (find one ys ≡ Some x → find other ys ≡ Some x) → cond b (Some y) (find one ys) ≡ Some x → cond o (Some y) (find other ys) ≡ Some x
    go true is true also rec f = f
    go true is false also rec f = let same : y ≡ x = cc in absurd (true≢false (sym h ∙ sym (ap other same) ∙ also))
    go false is true also rec f = absurd (true≢false (sym (all.0 also) ∙ is))
    go false is false also rec f = rec f

pub found : {A : Type 0} (test : A → Bool) (xs : List A) (at : ℕ) (x : A) → position_from test 0 xs ≡ Some at → slice_get xs at ≡ Some x → find test xs ≡ Some x
found test xs at x e f = find_at test xs ∙ ap (slice_get xs) (go (ltb (position_or_len test xs) (length xs)) (position_from-zero test xs ∙ e)) ∙ f
  where
    go : (b : Bool) → cond b (Some (position_or_len test xs)) None ≡ Some at → position_or_len test xs ≡ at
    go true h = cc
    go false h = absurd (cc)

-- ---- tables with a tree

module _ (schema : Schema) (tree : ℕ) (name : List ℕ) where
  named_so : (t : Table) → not (t.tree == tree) || same_name t.name name ≡ true → t.tree ≡ tree → same_name t.name name ≡ true
  named_so t h e = when (t.tree == tree) (same_name t.name name) (eq-eqb t.tree tree e) h

  passes : (t : Table) → (t.tree ≡ tree → same_name t.name name ≡ true) → not (t.tree == tree) || same_name t.name name ≡ true
  passes t h = either (t.tree == tree) (same_name t.name name) (λ e. h (eqb-true t.tree tree e))

  tested_so : (t : Table) → (t.tree ≡ tree → same_name t.name name ≡ true) → t.tree == tree ≡ true → same_name t.name name ≡ true
  tested_so t h e = h (eqb-true t.tree tree e)

  bears : IsLone schema tree name → list_all (λ t. not (t.tree == tree) || same_name t.name name) schema.tables ≡ true
  bears h = test_from_all _ schema.tables (all_weaker _ _ passes schema.tables h)

  pub lone : (b : Bool) → b ≡ list_all (λ t. not (t.tree == tree) || same_name t.name name) schema.tables → IsTrue b ↔ IsLone schema tree name
  lone b is = (λ h. all_weaker _ _ named_so schema.tables (all_from_test _ schema.tables (sym is ∙ h)), λ h. is ∙ bears h)

-- ---- keys and indexes

same_order : (a b : Order) → a.digits ≡ b.digits → a ≡ b
same_order a b = ap (λ (n : ℕ). let o : Order = record { digits = n } in o)

is_plain : (o : Order) → Decides (o.digits == 0) (o ≡ plain)
is_plain o = (λ h. same_order o plain (eqb-true o.digits 0 h), λ h. eq-eqb o.digits 0 (ap (λ (p : Order). p.digits) h))

abbrev key_of : Index → List ℕ × Order
key_of i = (i.columns, i.order)

abbrev bytewise : List ℕ → List ℕ × Order
bytewise key = (key, plain)

-- the one key of a table, where it has a key
pub one_key : (keys : List (List ℕ)) (key places : List ℕ) → length keys ≡ 1 → key ≡ get_or keys 0 key → (length places ≡ 0 → ⊥) → (b : Bool) → b ≡ pointwise nat_eq key places → IsTrue b ↔ (keys ≡ (if length places == 0 then [] else places ∷ []))
one_key [] key places many item some b is = absurd (omega arith)
one_key (k ∷ []) key places many item some b is = rw (ne_eqb (length places) 0 some) (
  λ h. ap (λ (l : List ℕ). l ∷ []) (sym item ∙ (bytes_eq-Decides key places).0 (sym is ∙ h)),
  λ h. let same : k ≡ places = cc in is ∙ (bytes_eq-Decides key places).1 (item ∙ same),
)
one_key (k ∷ l ∷ keys) key places many item some b is = absurd (omega arith)

module _ (places : List ℕ) where
  -- what the index of a key at these places is by
  abbrev own : List ℕ × Order
  own = bytewise places

  tells : (i : Index) → is_key_at places i ≡ true → (i.is_unique ≡ true) × (key_of i ≡ own)
  tells i h =
      let outer = and_parts (i.is_unique && (i.order.digits == 0)) (pointwise nat_eq i.columns places) h in
      let inner = and_parts i.is_unique (i.order.digits == 0) outer.0 in
      (inner.0, ap₂ (λ (c : List ℕ) (o : Order). (c, o)) ((bytes_eq-Decides i.columns places).0 outer.1) ((is_plain i.order).0 inner.1))

  holds : (i : Index) → i.is_unique ≡ true → key_of i ≡ own → is_key_at places i ≡ true
  holds i unique same =
      and_from (i.is_unique && (i.order.digits == 0)) (pointwise nat_eq i.columns places)
      (and_from i.is_unique (i.order.digits == 0) unique (eq-eqb i.order.digits 0 (ap (λ (k : List ℕ × Order). k.1.digits) same)))
      ((bytes_eq-Decides i.columns places).1 (ap (λ (k : List ℕ × Order). k.0) same))

  module _ (tree : ℕ) where
    abbrev on : List Index → List Index
    on is = filter (λ i. i.table == tree) is

    abbrev kept : List Index → List Index
    kept is = filter (λ i. i.is_unique && (i.table == tree)) is

    abbrev keys : List Index → List (List ℕ × Order)
    keys is = map key_of (kept is)

    abbrev AreUnique : List Index → Type 0
    AreUnique is = AllByRecursion (λ i. i.table ≡ tree → i.is_unique ≡ true) is

    abbrev AreOwn : List (List ℕ × Order) → Type 0
    AreOwn ks = AllByRecursion (λ k. k ≡ own) ks

    abbrev Pass : List Index → Type 0
    Pass is = AllByRecursion (λ i. not (i.table == tree) || is_key_at places i ≡ true) is

    unique_of : (i : Index) → not (i.table == tree) || is_key_at places i ≡ true → i.table ≡ tree → i.is_unique ≡ true
    unique_of i h e = (tells i (when (i.table == tree) (is_key_at places i) (eq-eqb i.table tree e) h)).0

    counted : (is : List Index) → AreUnique is → length (keys is) ≡ length (on is)
    counted [] h = refl
    counted (i ∷ is) h = go i.is_unique (i.table == tree) (λ e. h.0 (eqb-true i.table tree e)) (counted is h.1)
      where
        go : (u t : Bool) → (t ≡ true → u ≡ true) → length (keys is) ≡ length (on is)
            → length (map key_of (cond (u && t) (i ∷ kept is) (kept is))) ≡ length (cond t (i ∷ on is) (on is))
        go true true unique e = ap suc e
        go true false unique e = e
        go false true unique e = absurd (true≢false (sym (unique refl)))
        go false false unique e = e

    own_of : (is : List Index) → Pass is → AreOwn (keys is)
    own_of [] h = tt
    own_of (i ∷ is) h = go i.is_unique (i.table == tree) (λ e. (tells i (when (i.table == tree) (is_key_at places i) e h.0)).1) (own_of is h.1)
      where
        go : (u t : Bool) → (t ≡ true → key_of i ≡ own) → AreOwn (keys is) → AreOwn (map key_of (cond (u && t) (i ∷ kept is) (kept is)))
        go true true same rest = (same refl, rest)
        go true false same rest = rest
        go false t same rest = rest

    pass_of : (is : List Index) → AreUnique is → AreOwn (keys is) → Pass is
    pass_of [] unique all = tt
    pass_of (i ∷ is) unique all = go i.is_unique refl (i.table == tree) refl all (λ rest. pass_of is unique.1 rest)
      where
        go : (u : Bool) → i.is_unique ≡ u → (t : Bool) → i.table == tree ≡ t → AreOwn (map key_of (cond (u && t) (i ∷ kept is) (kept is)))
            → (AreOwn (keys is) → Pass is) → (not t || is_key_at places i ≡ true) × Pass is
        go true is_so true e ks rest = (holds i is_so ks.0, rest ks.1)
        go true is_so false e ks rest = (refl, rest ks)
        go false is_so true e ks rest = absurd (true≢false (sym (unique.0 (eqb-true i.table tree e)) ∙ is_so))
        go false is_so false e ks rest = (refl, rest ks)

    -- what the indexes are by, of a table whose key is at these places, or that has none
    abbrev wanted : List (List ℕ × Order)
    wanted = map bytewise (alone places (length places == 0))

    wanted_own : (none : Bool) → AreOwn (map bytewise (alone places none))
    wanted_own true = tt
    wanted_own false = (refl, tt)

    many_wanted : (none : Bool) → length (map bytewise (alone places none)) ≡ length (alone places none)
    many_wanted true = refl
    many_wanted false = refl

    length-wanted : length wanted ≡ min (length places) 1
    length-wanted = many_wanted (length places == 0) ∙ length-alone places (length places)

    pub own_indexes : (is : List Index) → length (on is) ≡ min (length places) 1 → (b : Bool) → b ≡ list_all (λ i. not (i.table == tree) || is_key_at places i) is → IsTrue b ↔ ((keys is ≡ wanted) × AreUnique is)
    own_indexes is many b tests = (
      λ h.
          let pass : Pass is = all_from_test _ is (sym tests ∙ h) in
          let unique : AreUnique is = all_weaker _ _ unique_of is pass in
          (as_many own (keys is) wanted (own_of is pass) (wanted_own (length places == 0)) (counted is unique ∙ many ∙ sym length-wanted), unique),
      λ h.
          let same : AreOwn (keys is) = subst (λ (ks : List (List ℕ × Order)). AreOwn ks) (sym h.0) (wanted_own (length places == 0)) in
          tests ∙ test_from_all _ is (pass_of is h.1 same),
    )

    pub not_as_many : (is : List Index) → (length (on is) ≡ min (length places) 1 → ⊥) → (keys is ≡ wanted) × AreUnique is → ⊥
    not_as_many is differ h = differ (sym (counted is h.1) ∙ ap length h.0 ∙ length-wanted)

-- ---- the table that stands

module _ (schema : Schema) (t : Table) (at : ℕ) (named : table_named schema t.name ≡ Some at) where
  tree_is : (table : Table) → slice_get schema.tables at ≡ Some table → tree_of schema t.name ≡ table.tree
  tree_is table has =
      ap (λ (o : Option ℕ). unwrap_or (option_map (λ (u : Table). u.tree) (option_and_then (slice_get schema.tables) o)) 0) named
      ∙ ap (λ (o : Option Table). unwrap_or (option_map (λ (u : Table). u.tree) o) 0) has

  -- nothing of others is on the table where it has this tree
  abbrev IsSpared : ℕ → Type 0
  IsSpared tree = (tree < 2 ^ 31) × IsLone schema tree t.name × IsUnmentioned schema t.name × (unique_keys schema tree ≡ map bytewise t.uniques) × IsUniquelyIndexed schema tree

  stands_with : (tree : ℕ) → tree ≡ tree_of schema t.name → slice_get schema.tables at ≡ Some (record t { tree = tree }) → IsSpared tree → StandsAlone schema t
  stands_with tree is has spared =
      let here : slice_get schema.tables at ≡ Some (table_in schema t) = subst (λ (m : ℕ). slice_get schema.tables at ≡ Some (record t { tree = m })) is has in
      let free : IsSpared (tree_of schema t.name) = subst IsSpared is spared in
      record {
        stands = record {
          at = at;
          has = record {
            named = named;
            stands = here;
            found = first_by (λ (u : Table). same_name u.name t.name) (λ (u : Table). u.tree == tree_of schema t.name) schema.tables (table_in schema t)
                (found (λ (u : Table). same_name u.name t.name) schema.tables at (table_in schema t) named here) (eq-eqb (tree_of schema t.name) (tree_of schema t.name) refl)
                (all_weaker _ _ (tested_so schema (tree_of schema t.name) t.name) schema.tables free.1);
          };
          stored = free.0;
          unreferred = unreferred schema t.name (tree_of schema t.name) (bears schema (tree_of schema t.name) t.name free.1) free.2;
          keyed = free.3;
        };
        unmentioned = free.2;
        lone = free.1;
        indexed = free.4;
      }

  pub stands_alone : (table : Table) → slice_get schema.tables at ≡ Some table → table ≡ record t { tree = table.tree } → (b : Bool) → IsTrue b ↔ IsSpared table.tree → IsTrue b ↔ StandsAlone schema t
  stands_alone table has made b spared = (
    λ h. stands_with table.tree (sym (tree_is table has)) (has ∙ ap Some made) (spared.0 h),
    λ s. spared.1 (subst IsSpared (tree_is table has) (s.stands.stored, s.lone, s.unmentioned, s.stands.keyed, s.indexed)),
  )
