-- What the tests on where a table stands tell.
use Rattle.std.proofs.Common.{◌≡◌, ◌<◌, ◌≤◌, ℕ, zero, suc, ◌+◌, ◌==◌, ◌^◌, ◌||◌, List, [], ◌∷◌, map, find, Bool, true, false, not, cond, Option, None, Some, option_and_then, option_map, refl, sym, ap, ◌∙◌, slice_get, arith, true≢false, inl, inr, is_eq}
use Rattle.std.specs.List.{position_from, AllByRecursion, list_all}
use Rattle.std.specs.Char.{to_ascii_lowercase}
use Rattle.std.proofs.lemmas.Cmp.{tied_itself, nat_list_cmp_total}
use Rattle.std.proofs.lemmas.Slice.Eq.{bytes_eq-Decides}
use Rattle.std.proofs.lemmas.Map.Text.{is_eq-slice_cmp}
use Rattle.sqlite_rules.specs.Lists.{Has}
use Rattle.sqlite_schema.specs.declared.schema.Table.{Table}
use Rattle.sqlite_schema.specs.declared.schema.Reference.{Reference}
use Rattle.sqlite_schema.specs.declared.schema.Schema.{Schema}
use Rattle.sqlite_schema.specs.Names.{table_named, same_name}
use Rattle.sqlite_schema.specs.Rules.{parent_key, key_in, key_places, declared_order}
use Rattle.dh_rows.specs.Places.{HasTable, is_at, IsUnreferred, IsUnmentioned}
use Rattle.dh_rows.proofs.Create.{find_has}

above : {A : Type 0} (test : A → Bool) (from : ℕ) (xs : List A) (at : ℕ) → position_from test from xs ≡ Some at → from ≤ at
above test from [] at e = absurd (cc)
above test from (x ∷ xs) at e = go (test x) (λ h. let k : from + 1 ≤ at = above test (from + 1) xs at h in omega arith) e
  where
    go : (b : Bool) → (position_from test (from + 1) xs ≡ Some at → from ≤ at) → cond b (Some from) (position_from test (from + 1) xs) ≡ Some at → from ≤ at
    go true rec h = let k : from ≡ at = cc in omega arith
    go false rec h = rec h

found_from : {A : Type 0} (test : A → Bool) (from at : ℕ) (xs : List A) (x : A) → position_from test from xs ≡ Some (from + at) → slice_get xs at ≡ Some x → find test xs ≡ Some x
found_from test from at [] x e f = absurd (cc)
found_from test from zero (y ∷ ys) x e f = go (test y) (λ h. absurd (let k : from + 1 ≤ from + 0 = above test (from + 1) ys (from + 0) h in omega arith)) e
  where
    go : (b : Bool) → (position_from test (from + 1) ys ≡ Some (from + 0) → find test ys ≡ Some x) → cond b (Some from) (position_from test (from + 1) ys) ≡ Some (from + 0) → cond b (Some y) (find test ys) ≡ Some x
    go true rec h = f
    go false rec h = rec h
found_from test from (suc at) (y ∷ ys) x e f = go (test y) (λ h. found_from test (from + 1) at ys x (h ∙ ap Some (omega arith)) f) e
  where
    go : (b : Bool) → (position_from test (from + 1) ys ≡ Some (from + suc at) → find test ys ≡ Some x) → cond b (Some from) (position_from test (from + 1) ys) ≡ Some (from + suc at) → cond b (Some y) (find test ys) ≡ Some x
    go true rec h = absurd (let k : from ≡ from + suc at = cc in omega arith)
    go false rec h = rec h

find_true : {A : Type 0} (test : A → Bool) (xs : List A) (x : A) → find test xs ≡ Some x → test x ≡ true
find_true test [] x h = absurd (cc)
find_true test (y ∷ ys) x h = go (test y) refl (find_true test ys x) h
  where
    go : (b : Bool) → test y ≡ b → (find test ys ≡ Some x → test x ≡ true) → cond b (Some y) (find test ys) ≡ Some x → test x ≡ true
    go true e rec h = let same : y ≡ x = cc in sym (ap test same) ∙ e
    go false e rec h = rec h

all_has : {A : Type 0} (test : A → Bool) (xs : List A) (x : A) → list_all test xs ≡ true → Has xs x → test x ≡ true
all_has test [] x all has = absurd has
all_has test (y ∷ ys) x all has = go (test y) refl all (λ h. all_has test ys x h) has
  where
    go : (b : Bool) → test y ≡ b → Rattle.std.proofs.Common.◌&&◌ b (list_all test ys) ≡ true → (list_all test ys ≡ true → Has ys x → test x ≡ true) → Has (y ∷ ys) x → test x ≡ true
    go true e h rec (inl same) = ap test same ∙ e
    go true e h rec (inr more) = rec h more
    go false e h rec has = absurd (true≢false (sym h))

lowered : (a b : List ℕ) → same_name a b ≡ true → map to_ascii_lowercase a ≡ map to_ascii_lowercase b
unfolding same_name
lowered a b e = (bytes_eq-Decides (map to_ascii_lowercase a) (map to_ascii_lowercase b)).0 (sym (is_eq-slice_cmp (map to_ascii_lowercase a) (map to_ascii_lowercase b)) ∙ e)

names_meet : (u n m : List ℕ) → same_name u n ≡ true → same_name u m ≡ true → same_name n m ≡ true
unfolding same_name
names_meet u n m p q = rw (sym (lowered u n p) ∙ lowered u m q) (ap is_eq (tied_itself nat_list_cmp_total (map to_ascii_lowercase m)))

module _ (schema : Schema) (name : List ℕ) (tree : ℕ) (bears : list_all (λ t. not (t.tree == tree) || same_name t.name name) schema.tables ≡ true) where
  other_tree : (ref : Reference) (u : Table) → same_name name ref.parent ≡ false → find (λ t. same_name t.name ref.parent) schema.tables ≡ Some u → u.tree == tree ≡ false
  other_tree ref u apart e = go (u.tree == tree) refl (all_has (λ t. not (t.tree == tree) || same_name t.name name) schema.tables u bears (find_has _ schema.tables u e))
    where
      go : (b : Bool) → u.tree == tree ≡ b → not b || same_name u.name name ≡ true → u.tree == tree ≡ false
      go true is h = absurd (true≢false (sym (names_meet u.name name ref.parent h (find_true (λ t. same_name t.name ref.parent) schema.tables u e)) ∙ apart))
      go false is h = is

  spared : (ref : Reference) → same_name name ref.parent ≡ false → is_at tree (parent_key schema.tables ref) ≡ false
  spared ref apart = go (find (λ u. same_name u.name ref.parent) schema.tables) refl (λ u. other_tree ref u apart)
    where
      at_order : (u : Table) (places : List ℕ) → u.tree == tree ≡ false → (o : _) → is_at tree (option_map (λ (o : _). (u.tree, places, o)) o) ≡ false
      at_order u places low None = refl
      at_order u places low (Some o) = low

      at_key : (u : Table) → u.tree == tree ≡ false → (o : Option (List ℕ)) → is_at tree (option_and_then (key_in u) o) ≡ false
      at_key u low None = refl
      at_key u low (Some places) = at_order u places low (declared_order u places)

      go : (o : Option Table) → find (λ u. same_name u.name ref.parent) schema.tables ≡ o → ((u : Table) → find (λ t. same_name t.name ref.parent) schema.tables ≡ Some u → u.tree == tree ≡ false)
          → is_at tree (option_and_then (λ u. option_and_then (key_in u) (key_places u ref.parent_columns)) o) ≡ false
      go None e rec = refl
      go (Some u) e rec = at_key u (rec u e) (key_places u ref.parent_columns)

  refs : (rs : List Reference) → AllByRecursion (λ ref. same_name name ref.parent ≡ false) rs → AllByRecursion (λ ref. is_at tree (parent_key schema.tables ref) ≡ false) rs
  refs [] h = tt
  refs (r ∷ rs) h = (spared r h.0, refs rs h.1)

  tables : (ts : List Table) → AllByRecursion (λ t. AllByRecursion (λ ref. same_name name ref.parent ≡ false) t.references) ts → AllByRecursion (λ t. AllByRecursion (λ ref. is_at tree (parent_key schema.tables ref) ≡ false) t.references) ts
  tables [] h = tt
  tables (t ∷ ts) h = (refs t.references h.0, tables ts h.1)

  pub unreferred : IsUnmentioned schema name → IsUnreferred schema tree
  unreferred = tables schema.tables

pub found_at : (schema : Schema) (name : List ℕ) (at : ℕ) (table : Table) → table_named schema name ≡ Some at → slice_get schema.tables at ≡ Some table → position_from (λ t. t.tree == table.tree) 0 schema.tables ≡ Some at → HasTable schema name at table
found_at schema name at table named stands first = record { named = named; stands = stands; found = found_from (λ t. t.tree == table.tree) 0 at schema.tables table (first ∙ ap Some (omega arith)) stands }
