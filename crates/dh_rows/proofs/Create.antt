-- CREATE TABLE at any schema that lacks the name, and what becomes of the tables that are there.
use Rattle.std.proofs.Common.{◌≡◌, ◌≢◌, ◌<◌, ◌≤◌, ℕ, zero, suc, ◌+◌, ◌==◌, ◌^◌, ◌&&◌, ◌||◌, List, [], ◌∷◌, ◌++◌, map, find, codes, Bool, true, false, not, cond, Option, None, Some, Ok, Err, Result, refl, sym, ap, subst, ◌∙◌, slice_get, length, arith, true≢false, inl, inr, ◌⊎◌}
use Rattle.std.specs.List.{position_from, AllByRecursion, AllZip, list_any}
use Rattle.std.proofs.lemmas.Bool.Decides.{eqb_tells}
use Rattle.sqlite_value.specs.Order.{Row}
use Rattle.sqlite_value.specs.Keys.{plain}
use Rattle.sqlite_trees.specs.Tree.{Trees}
use Rattle.sqlite_rules.specs.Lists.{Has}
use Rattle.sqlite_schema.specs.declared.schema.Table.{Table}
use Rattle.sqlite_schema.specs.declared.schema.Index.{Index}
use Rattle.sqlite_schema.specs.declared.schema.Reference.{Reference}
use Rattle.sqlite_schema.specs.declared.schema.Schema.{Schema}
use Rattle.sqlite_schema.specs.declared.command.Command.TheVariants.{CreateTable}
use Rattle.sqlite_schema.specs.Names.{table_named, same_name}
use Rattle.sqlite_schema.specs.Rules.{parent_key, key_in, key_places, declared_order}
use Rattle.sqlite_syntax.specs.declared.statement.Parsed.{Parsed}
use Rattle.sqlite_ast.specs.declared.CreateTable.{CreateTable as Definition}
use Rattle.sqlite_ast.specs.declared.Statement.TheVariants as written
use Rattle.sqlite_resolve.specs.Compile.{command, returning, timed, first, with_command, create_table, is_attached, creates as may_create, is_reserved, table_defined_by}
use Rattle.sqlite_resolve.specs.Define as define
use Rattle.sqlite_keyed.proofs.ListLemmas.{all-slice_get, all-append}
use Rattle.sqlite_catalog.specs.Change.{created, next_tree, automatics, KeepsRows}
use Rattle.sqlite_catalog.specs.Listing.{IsTableRow}
use Rattle.sqlite_catalog.proofs.StepLemmas.{same_itself, table_below}
use Rattle.sqlite.specs.Effect.{Database, IsDatabase}
use Rattle.sqlite.specs.Does.{Does, Tally, lacks_sequence}
use Rattle.sqlite.specs.Given.{IsPlain}
use Rattle.sqlite.specs.Listing.{understood}
use Rattle.sqlite.specs.State.{State, mode_of, text_of}
use Rattle.dh_rows.specs.Calls.{compiled_command, IsEdit, IsPlainEdit, EditsTo, EditsAs}
use Rattle.dh_rows.specs.Places.{IsFree, HasTable, is_at, IsUnreferred, IsUnmentioned, tree_of, table_in, StandsInSchema, unique_keys, ArePlaced, rows_of}
use Rattle.dh_rows.proofs.Indexes.{placed, keyed_kept, keyed_made}
use Rattle.dh_rows.proofs.Meaning.{understood_as, compiled_as}

-- ---- the text

-- a text that creates the table
pub data IsCreate (text : List ℕ) (t : Table) : Type 0 where
  makes : {p : Parsed} {def : Definition} → first text ≡ Ok p → p.statement ≡ written.CreateTable def → p.formats ≡ [] → def.name ≡ t.name → is_reserved t.name ≡ false → define.table [] def ≡ Ok t
      → (length t.computed == length t.stamps.places) && not def.resolves ≡ true → table_defined_by (text_of text (with_command p ([], (CreateTable, None)))) ≡ Ok t → IsCreate text t

module _ (schema : Schema) (p : Parsed) (def : Definition) (is : p.statement ≡ written.CreateTable def) (formats : p.formats ≡ []) (free : IsFree schema def.name) (reserved : is_reserved def.name ≡ false)
    (table : Table) (made : define.table [] def ≡ Ok table) (sound : (length table.computed == length table.stamps.places) && not def.resolves ≡ true) where
  create_time : timed schema p.formats p.statement ≡ []
  unfolding timed
  create_time = rw is refl

  create_shows : (base : ℕ) → returning schema base p.statement ≡ Ok None
  unfolding returning
  create_shows base = rw is refl

  makes_command : (base : ℕ) → command schema p.formats base p.statement ≡ Ok CreateTable
  unfolding command create_table is_attached may_create
  makes_command base = rw (is, formats, free.views, free.tables, free.indexes, reserved, made, sound) refl

  create_means : (text : List ℕ) → first text ≡ Ok p → understood schema text ≡ Ok (with_command p ([], (CreateTable, None)))
  create_means text read = understood_as schema text _ (compiled_as schema text p [] None CreateTable read create_time (create_shows _) (makes_command _))

-- ---- lists

-- of a list that is made longer
module _ {A : Type 0} (test : A → Bool) where
  position_kept : (from at : ℕ) (xs more : List A) → position_from test from xs ≡ Some at → position_from test from (xs ++ more) ≡ Some at
  position_kept from at [] more e = absurd (cc)
  position_kept from at (x ∷ xs) more e = go (test x) (position_kept (from + 1) at xs more) e
    where
      go : (b : Bool) → (position_from test (from + 1) xs ≡ Some at → position_from test (from + 1) (xs ++ more) ≡ Some at) → cond b (Some from) (position_from test (from + 1) xs) ≡ Some at → cond b (Some from) (position_from test (from + 1) (xs ++ more)) ≡ Some at
      go true rec e = e
      go false rec e = rec e

  find_kept : (x : A) (xs more : List A) → find test xs ≡ Some x → find test (xs ++ more) ≡ Some x
  find_kept x [] more e = absurd (cc)
  find_kept x (y ∷ ys) more e = go (test y) (find_kept x ys more) e
    where
      go : (b : Bool) → (find test ys ≡ Some x → find test (ys ++ more) ≡ Some x) → cond b (Some y) (find test ys) ≡ Some x → cond b (Some y) (find test (ys ++ more)) ≡ Some x
      go true rec e = e
      go false rec e = rec e

  find_new : (new : A) (xs : List A) → AllByRecursion (λ x. test x ≡ false) xs → test new ≡ true → find test (xs ++ new ∷ []) ≡ Some new
  find_new new [] none hit = rw hit refl
  find_new new (x ∷ xs) none hit = rw none.0 (find_new new xs none.1 hit)

  position_new : (from : ℕ) (new : A) (xs : List A) → position_from test from xs ≡ None → test new ≡ true → position_from test from (xs ++ new ∷ []) ≡ Some (from + length xs)
  position_new from new [] none hit = rw hit (ap Some (omega arith))
  position_new from new (x ∷ xs) none hit = go (test x) (λ e. position_new (from + 1) new xs e hit) none
    where
      go : (b : Bool) → (position_from test (from + 1) xs ≡ None → position_from test (from + 1) (xs ++ new ∷ []) ≡ Some (from + 1 + length xs)) → cond b (Some from) (position_from test (from + 1) xs) ≡ None
          → cond b (Some from) (position_from test (from + 1) (xs ++ new ∷ [])) ≡ Some (from + suc (length xs))
      go true rec e = absurd (cc)
      go false rec e = rec e ∙ ap Some (omega arith)

slice_kept : {A : Type 0} (xs more : List A) (at : ℕ) (x : A) → slice_get xs at ≡ Some x → slice_get (xs ++ more) at ≡ Some x
slice_kept [] more at x e = absurd (cc)
slice_kept (y ∷ ys) more zero x e = e
slice_kept (y ∷ ys) more (suc at) x e = slice_kept ys more at x e

slice_new : {A : Type 0} (xs : List A) (x : A) → slice_get (xs ++ x ∷ []) (length xs) ≡ Some x
slice_new [] x = refl
slice_new (y ∷ ys) x = slice_new ys x

slice_has : {A : Type 0} (xs : List A) (at : ℕ) (x : A) → slice_get xs at ≡ Some x → Has xs x
slice_has [] at x e = absurd (cc)
slice_has (y ∷ ys) zero x e = inl (let same : y ≡ x = cc in sym same)
slice_has (y ∷ ys) (suc at) x e = inr (slice_has ys at x e)

all_of : {A : Type 0} (P : A → Type 0) (xs : List A) → ((x : A) → Has xs x → P x) → AllByRecursion P xs
all_of P [] f = tt
all_of P (x ∷ xs) f = (f x (inl refl), all_of P xs (λ y h. f y (inr h)))

-- the tables that are there stay where they are
pub table_kept : (schema : Schema) (new : Table) (name : List ℕ) (at : ℕ) (table : Table) → HasTable schema name at table → HasTable (created schema new) name at table
table_kept schema new name at table has =
    record { named = position_kept _ 0 at schema.tables _ has.named; stands = slice_kept schema.tables _ at table has.stands; found = find_kept _ table schema.tables _ has.found }

below_differs : (m n : ℕ) → m < n → m == n ≡ false
below_differs m n less = elim (eqb_tells m n) [ inl same ↦ absurd (let e : m ≡ n = same.1 in omega arith) | inr other ↦ other.0 ]

same_number : (n : ℕ) → n == n ≡ true
same_number n = elim (eqb_tells n n) [ inl same ↦ same.0 | inr other ↦ absurd (other.1 refl) ]

-- and the new one is the last
pub table_made : (schema : Schema) (new : Table) → table_named schema new.name ≡ None → HasTable (created schema new) new.name (length schema.tables) (record new { tree = next_tree schema })
table_made schema new free =
    record {
      named = position_new _ 0 (record new { tree = next_tree schema }) schema.tables free (same_itself new.name) ∙ ap Some (omega arith);
      stands = slice_new schema.tables _;
      found = find_new (λ t. t.tree == next_tree schema) (record new { tree = next_tree schema }) schema.tables (all_of _ schema.tables (λ t h. below_differs t.tree (next_tree schema) (table_below schema t h))) (same_number (next_tree schema));
    }

-- ---- counted tables

any_more : {A : Type 0} (test : A → Bool) (x : A) (xs : List A) → test x ≡ false → list_any test (xs ++ x ∷ []) ≡ list_any test xs
any_more test x [] fails = rw fails refl
any_more test x (y ∷ ys) fails = ap (λ b. test y || b) (any_more test x ys fails)

either_false : (b : Bool) → b && false ≡ false
either_false true = refl
either_false false = refl

pub counts_kept : (schema : Schema) (new : Table) → new.is_counted ≡ false → lacks_sequence schema ≡ false → lacks_sequence (created schema new) ≡ false
counts_kept schema new plain fine = settled (list_any (λ t. t.is_counted) schema.tables) refl (table_named schema (codes "sqlite_sequence")) refl
  where
    more : list_any (λ t. t.is_counted) (created schema new).tables ≡ list_any (λ t. t.is_counted) schema.tables
    more = any_more (λ t. t.is_counted) (record new { tree = next_tree schema }) schema.tables plain

    settled : (b : Bool) → list_any (λ t. t.is_counted) schema.tables ≡ b → (o : Option ℕ) → table_named schema (codes "sqlite_sequence") ≡ o → lacks_sequence (created schema new) ≡ false
    settled false none o is = rw (more, none) refl
    settled true some (Some at) is = there (slice_get schema.tables at) refl
      where
        there : (o : Option Table) → slice_get schema.tables at ≡ o → lacks_sequence (created schema new) ≡ false
        there None gone = absurd (true≢false (sym (rw (some, is, gone) refl) ∙ fine))
        there (Some t) stands = rw (position_kept (λ t. same_name t.name (codes "sqlite_sequence")) 0 at schema.tables (record new { tree = next_tree schema } ∷ []) is, slice_kept schema.tables (record new { tree = next_tree schema } ∷ []) at t stands) (either_false (list_any (λ t. t.is_counted) (created schema new).tables))
    settled true some None is = absurd (true≢false (sym (rw (some, is) refl) ∙ fine))

pub row_kept : (tables : List Table) (at : ℕ) (table : Table) (old new : Trees) → slice_get tables at ≡ Some table → KeepsRows tables old new → new table.tree ≡ old table.tree
row_kept [] at table old new e keeps = absurd (cc)
row_kept (t ∷ ts) zero table old new e keeps = let same : t ≡ table = cc in subst (λ (u : Table). new u.tree ≡ old u.tree) same keeps.0
row_kept (t ∷ ts) (suc at) table old new e keeps = row_kept ts at table old new e keeps.1

-- ---- the new table among the others

module _ {A : Type 0} (test : A → Bool) where
  find_same : (new : A) (xs : List A) → test new ≡ false → find test (xs ++ new ∷ []) ≡ find test xs
  find_same new [] fails = rw fails refl
  find_same new (x ∷ xs) fails = go (test x) (find_same new xs fails)
    where
      go : (b : Bool) → find test (xs ++ new ∷ []) ≡ find test xs → cond b (Some x) (find test (xs ++ new ∷ [])) ≡ cond b (Some x) (find test xs)
      go true rec = refl
      go false rec = rec

  pub find_has : (xs : List A) (x : A) → find test xs ≡ Some x → Has xs x
  find_has [] x h = absurd (cc)
  find_has (y ∷ ys) x h = go (test y) (find_has ys x) h
    where
      go : (b : Bool) → (find test ys ≡ Some x → Has ys x) → cond b (Some y) (find test ys) ≡ Some x → Has (y ∷ ys) x
      go true rec e = inl (let same : y ≡ x = cc in sym same)
      go false rec e = inr (rec e)

  position_none : (from : ℕ) (new : A) (xs : List A) → position_from test from xs ≡ None → test new ≡ false → position_from test from (xs ++ new ∷ []) ≡ None
  position_none from new [] none fails = rw fails refl
  position_none from new (x ∷ xs) none fails = go (test x) (λ e. position_none (from + 1) new xs e fails) none
    where
      go : (b : Bool) → (position_from test (from + 1) xs ≡ None → position_from test (from + 1) (xs ++ new ∷ []) ≡ None) → cond b (Some from) (position_from test (from + 1) xs) ≡ None → cond b (Some from) (position_from test (from + 1) (xs ++ new ∷ [])) ≡ None
      go true rec e = absurd (cc)
      go false rec e = rec e

  position_more : (from : ℕ) (xs more : List A) → position_from test from xs ≡ None → AllByRecursion (λ x. test x ≡ false) more → position_from test from (xs ++ more) ≡ None
  position_more from [] [] none fails = refl
  position_more from [] (y ∷ ys) none fails = rw fails.0 (position_more (from + 1) [] ys refl fails.1)
  position_more from (x ∷ xs) more none fails = go (test x) (λ e. position_more (from + 1) xs more e fails) none
    where
      go : (b : Bool) → (position_from test (from + 1) xs ≡ None → position_from test (from + 1) (xs ++ more) ≡ None) → cond b (Some from) (position_from test (from + 1) xs) ≡ None → cond b (Some from) (position_from test (from + 1) (xs ++ more)) ≡ None
      go true rec e = absurd (cc)
      go false rec e = rec e

pub tree_is : (schema : Schema) (name : List ℕ) (at : ℕ) (table : Table) → HasTable schema name at table → tree_of schema name ≡ table.tree
tree_is schema name at table has = rw (has.named, has.stands) refl

module _ (schema : Schema) (t : Table) (unmentioned : IsUnmentioned schema t.name) (plain : t.references ≡ []) where
  abbrev new : Table
  new = record t { tree = next_tree schema }

  abbrev all : List Table
  all = schema.tables ++ new ∷ []

  same_parent : (ref : Reference) → same_name t.name ref.parent ≡ false → parent_key all ref ≡ parent_key schema.tables ref
  same_parent ref apart = rw (find_same (λ u. same_name u.name ref.parent) new schema.tables apart) refl

  below : (ref : Reference) → is_at (next_tree schema) (parent_key schema.tables ref) ≡ false
  below ref = go (find (λ u. same_name u.name ref.parent) schema.tables) refl
    where
      at_key : (u : Table) → u.tree < next_tree schema → (o : Option (List ℕ)) → is_at (next_tree schema) (Rattle.std.proofs.Common.option_and_then (key_in u) o) ≡ false
      at_key u low None = refl
      at_key u low (Some places) = at_order (declared_order u places)
        where
          at_order : (o : _) → is_at (next_tree schema) (Rattle.std.proofs.Common.option_map (λ o. (u.tree, places, o)) o) ≡ false
          at_order None = refl
          at_order (Some o) = below_differs u.tree (next_tree schema) low

      go : (o : Option Table) → find (λ u. same_name u.name ref.parent) schema.tables ≡ o → is_at (next_tree schema) (Rattle.std.proofs.Common.option_and_then (λ u. Rattle.std.proofs.Common.option_and_then (key_in u) (key_places u ref.parent_columns)) o) ≡ false
      go None e = refl
      go (Some u) e = at_key u (table_below schema u (find_has _ schema.tables u e)) (key_places u ref.parent_columns)

  refs_new : (refs : List Reference) → AllByRecursion (λ ref. same_name t.name ref.parent ≡ false) refs → AllByRecursion (λ ref. is_at (next_tree schema) (parent_key all ref) ≡ false) refs
  refs_new [] h = tt
  refs_new (ref ∷ refs) h = (rw (same_parent ref h.0) (below ref), refs_new refs h.1)

  tables_new : (ts : List Table) → AllByRecursion (λ u. AllByRecursion (λ ref. same_name t.name ref.parent ≡ false) u.references) ts
      → AllByRecursion (λ u. AllByRecursion (λ ref. is_at (next_tree schema) (parent_key all ref) ≡ false) u.references) ts
  tables_new [] h = tt
  tables_new (u ∷ us) h = (refs_new u.references h.0, tables_new us h.1)

  refs_kept : (tree : ℕ) (refs : List Reference) → AllByRecursion (λ ref. same_name t.name ref.parent ≡ false) refs → AllByRecursion (λ ref. is_at tree (parent_key schema.tables ref) ≡ false) refs → AllByRecursion (λ ref. is_at tree (parent_key all ref) ≡ false) refs
  refs_kept tree [] h k = tt
  refs_kept tree (ref ∷ refs) h k = (rw (same_parent ref h.0) k.0, refs_kept tree refs h.1 k.1)

  tables_kept : (tree : ℕ) (ts : List Table) → AllByRecursion (λ u. AllByRecursion (λ ref. same_name t.name ref.parent ≡ false) u.references) ts
      → AllByRecursion (λ u. AllByRecursion (λ ref. is_at tree (parent_key schema.tables ref) ≡ false) u.references) ts
      → AllByRecursion (λ u. AllByRecursion (λ ref. is_at tree (parent_key all ref) ≡ false) u.references) ts
  tables_kept tree [] h k = tt
  tables_kept tree (u ∷ us) h k = (refs_kept tree u.references h.0 k.0, tables_kept tree us h.1 k.1)

  no_refs : (P : Reference → Type 0) → AllByRecursion P t.references
  no_refs P = subst (AllByRecursion P) (sym plain) tt

  unreferred_new : IsUnreferred (created schema t) (next_tree schema)
  unreferred_new = all-append _ schema.tables (new ∷ []) (tables_new schema.tables unmentioned) (no_refs _, tt)

  unreferred_kept : (tree : ℕ) → IsUnreferred schema tree → IsUnreferred (created schema t) tree
  unreferred_kept tree h = all-append _ schema.tables (new ∷ []) (tables_kept tree schema.tables unmentioned h) (no_refs _, tt)

  -- no foreign key names another table more than before
  pub unmentioned_kept : (name : List ℕ) → IsUnmentioned schema name → IsUnmentioned (created schema t) name
  unmentioned_kept name h = all-append _ schema.tables (new ∷ []) h (no_refs _, tt)

-- another name stays free
pub free_kept : (schema : Schema) (t : Table) (name : List ℕ) → same_name t.name name ≡ false
    → ((tree : ℕ) → AllByRecursion (λ (i : Index). same_name i.name name ≡ false) (automatics (record t { tree = tree }) 0 (tree + 1) t.uniques)) → IsFree schema name → IsFree (created schema t) name
free_kept schema t name apart indexes free =
    record {
      tables = position_none _ 0 (record t { tree = next_tree schema }) schema.tables free.tables apart;
      indexes = position_more (λ (i : Index). same_name i.name name) 0 schema.indexes _ free.indexes (indexes (next_tree schema));
      views = free.views;
    }

low_trees : (rows : List Row) (ts : List Table) → AllZip IsTableRow rows ts → AllByRecursion (λ (t : Table). t.tree < 65536) ts
low_trees [] [] h = tt
low_trees [] (t ∷ ts) h = absurd h
low_trees (r ∷ rs) [] h = absurd h
low_trees (r ∷ rs) (t ∷ ts) h = (h.0.described.low, low_trees rs ts h.1)

stored_in : (db : Database) (name : List ℕ) (at : ℕ) (table : Table) → IsDatabase db → HasTable db.schema name at table → table.tree < 2 ^ 31
stored_in db name at table sound has =
    let low : table.tree < 65536 = all-slice_get (λ (t : Table). t.tree < 65536) db.schema.tables at table has.stands (low_trees _ db.schema.tables sound.lists.listed.tables) in
    omega (arith, low)

-- the table stands where it is found
stands_at : (db : Database) (t : Table) (at tree : ℕ) → IsDatabase db → HasTable db.schema t.name at (record t { tree = tree }) → IsUnreferred db.schema tree → unique_keys db.schema tree ≡ map (λ places. (places, plain)) t.uniques → StandsInSchema db.schema t
stands_at db t at tree sound has alone keyed =
    let is = tree_is db.schema t.name at (record t { tree = tree }) has in
    record {
      at = at;
      has = subst (λ n. HasTable db.schema t.name at (record t { tree = n })) (sym is) has;
      stored = subst (λ n. n < 2 ^ 31) (sym is) (stored_in db t.name at (record t { tree = tree }) sound has);
      unreferred = subst (IsUnreferred db.schema) (sym is) alone;
      keyed = ap (unique_keys db.schema) is ∙ keyed;
    }

-- The table is made, with no row, and each table of ours that was there stands as it did.
pub record MakesEmptyTable (t : Table) (db after : Database) : Type 0 where
  pub schema : after.schema ≡ created db.schema t
  pub stands : StandsInSchema after.schema t
  pub empty : rows_of after t.name ≡ []
  pub others : (u : Table) → StandsInSchema db.schema u → StandsInSchema after.schema u × (rows_of after u.name ≡ rows_of db u.name)
  pub counted : lacks_sequence after.schema ≡ false
  pub placed : ArePlaced after.schema

went : {B E R : Type 0} {b : B} {Stops : E → Type 0} → ((stop : E) × Stops stop × (Ok b ≡ Err stop)) ⊎ R → R
went (inl stopped) = absurd (let e = stopped.2 in cc)
went (inr on) = on

same_ok : {B E : Type 0} {a b : B} → ◌≡◌ {A = Result B E} (Ok a) (Ok b) → a ≡ b
same_ok e = cc

made_by : (s : State) (statement : List ℕ) (t : Table) (tally : Tally) (after : Database) → table_defined_by statement ≡ Ok t → lacks_sequence (created s.now.schema t) ≡ false
    → Does s.step_limit (mode_of s) [] s.now statement None CreateTable (Ok (tally, after))
    → (after.schema ≡ created s.now.schema t) × (after.trees (next_tree s.now.schema) ≡ []) × KeepsRows s.now.schema.tables s.now.trees after.trees
made_by s statement t tally after defines fine does =
    let all = went does in
    let first = went all.1 in
    let made = first.1 in
    let both : Ok made.table ≡ Ok t = sym made.defined ∙ defines in
    let same : made.table ≡ t = cc in
    let schema : first.0.schema ≡ created s.now.schema t = made.is ∙ ap (created s.now.schema) same in
    let plain : lacks_sequence first.0.schema ≡ false = ap lacks_sequence schema ∙ fine in
    let now : after ≡ first.0 = ap (λ (p : Tally × Database). p.1) (same_ok all.2) ∙ same_ok (rw plain at first.2) in (
      ap (λ (d : Database). d.schema) now ∙ schema,
      ap (λ (d : Database). d.trees (next_tree s.now.schema)) now ∙ made.empty,
      subst (λ (d : Database). KeepsRows s.now.schema.tables s.now.trees d.trees) (sym now) made.others,
    )

-- what `change` asks of the text, and what it then makes
pub record Creates (s : State) (text : List ℕ) (t : Table) : Type 0 where
  pub edit : IsPlainEdit s text
  pub made : (after : Database) → EditsTo s text [] after → MakesEmptyTable t s.now after

pub creates : (t : Table) (text : List ℕ) → IsCreate text t → t.references ≡ [] → t.is_counted ≡ false → AllByRecursion (λ o. o ≡ plain) t.orders → (s : State) → IsFree s.now.schema t.name → IsUnmentioned s.now.schema t.name → lacks_sequence s.now.schema ≡ false → ArePlaced s.now.schema → Creates s text t
creates t text (makes {p = p} {def = def} read is formats name reserved table sound defined) unreferring uncounted bytewise s free unmentioned counted fine =
    let schema = s.now.schema in
    let means = create_means schema p def is formats (subst (IsFree schema) (sym name) free) (ap is_reserved name ∙ reserved) t table sound text read in
    record { edit = record { plain = subst IsPlain (sym means) (refl, refl); edits = subst (λ r. IsEdit (compiled_command r)) (sym means) tt }; made = λ after edits. go after (subst (EditsAs s text [] after) means edits) }
  where
    low : (u : Table) → (was : StandsInSchema s.now.schema u) → tree_of s.now.schema u.name < next_tree s.now.schema
    low u was = table_below s.now.schema (table_in s.now.schema u) (slice_has s.now.schema.tables was.at (table_in s.now.schema u) was.has.stands)

    go : (after : Database) → EditsAs s text [] after (Ok (with_command p ([], (CreateTable, None)))) → MakesEmptyTable t s.now after
    go after it =
        let schema = s.now.schema in
        let counts = counts_kept schema t uncounted counted in
        let made = made_by s _ t it.0 after defined counts it.1 in
        let has = subst (λ d. HasTable d t.name (length schema.tables) (record t { tree = next_tree schema })) (sym made.0) (table_made schema t free.tables) in
        let alone = subst (λ d. IsUnreferred d (next_tree schema)) (sym made.0) (unreferred_new schema t unmentioned unreferring) in
        let stands = stands_at after t (length schema.tables) (next_tree schema) it.2 has alone (ap (λ d. unique_keys d (next_tree schema)) made.0 ∙ keyed_made schema t fine bytewise) in
        record {
          schema = made.0;
          stands = stands;
          empty = ap after.trees (tree_is after.schema t.name _ _ has) ∙ made.1;
          others = λ u was.
              let kept = subst (λ d. HasTable d u.name was.at (table_in schema u)) (sym made.0) (table_kept schema t u.name was.at (table_in schema u) was.has) in (
                stands_at after u was.at (tree_of schema u.name) it.2 kept (subst (λ d. IsUnreferred d (tree_of schema u.name)) (sym made.0) (unreferred_kept schema t unmentioned unreferring _ was.unreferred)) (ap (λ d. unique_keys d (tree_of schema u.name)) made.0 ∙ keyed_kept schema t (tree_of schema u.name) (low u was) ∙ was.keyed),
                ap after.trees (tree_is after.schema u.name _ _ kept) ∙ row_kept schema.tables was.at (table_in schema u) s.now.trees after.trees was.has.stands made.2,
              );
          counted = ap lacks_sequence made.0 ∙ counts;
          placed = placed after it.2;
        }
