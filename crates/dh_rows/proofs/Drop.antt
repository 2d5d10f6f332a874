-- DROP TABLE of a table that no foreign key names, and what becomes of the others.
use Rattle.std.proofs.Common.{◌≡◌, ◌≢◌, ◌<◌, ◌^◌, ℕ, suc, ◌+◌, ◌==◌, ◌&&◌, List, [], ◌∷◌, filter, find, map, codes, Bool, true, false, not, cond, Option, None, Some, Ok, refl, sym, ap, subst, ◌∙◌, slice_get, arith, true≢false, option_and_then, inl, inr, eq-eqb, eqb-true, ne_eqb}
use Rattle.std.specs.Prelude.{MatchBool, if◌then◌else◌}
use Rattle.std.specs.List.{position_from, AllByRecursion, list_any}
use Rattle.std.proofs.lemmas.Bool.{cases_Bool}
use Rattle.sqlite_trees.specs.Tree.{Trees, IsAscending}
use Rattle.sqlite_rules.specs.Lists.{Has}
use Rattle.sqlite_rules.proofs.ListLemmas.{all_has, all_from, has_filtered, has_found, has_got}
use Rattle.sqlite_schema.specs.declared.schema.Table.{Table}
use Rattle.sqlite_schema.specs.declared.schema.Index.{Index}
use Rattle.sqlite_schema.specs.declared.schema.Reference.{Reference}
use Rattle.sqlite_schema.specs.declared.schema.Schema.{Schema}
use Rattle.sqlite_schema.specs.declared.schema.Keys.{Keys}
use Rattle.sqlite_schema.specs.declared.command.Command.TheVariants.{DropTable}
use Rattle.sqlite_schema.specs.Names.{table_named, view_named, same_name}
use Rattle.sqlite_schema.specs.Rules.{parent_key, key_in, key_places}
use Rattle.sqlite_syntax.specs.declared.statement.Parsed.{Parsed}
use Rattle.sqlite_ast.specs.declared.Statement.TheVariants as written
use Rattle.sqlite_resolve.specs.Compile.{command, returning, timed, first, with_command, drop_table, is_reserved}
use Rattle.sqlite_keyed.proofs.ListLemmas.{all_weaker, all_both, all-filter, none_from_any, any_from_none, filter-filter}
use Rattle.sqlite_catalog.specs.Change.{without_table, KeepsRows}
use Rattle.sqlite_catalog.proofs.ListFacts.{find_within, none_placed}
use Rattle.sqlite_catalog.proofs.StepLemmas.{named_once}
use Rattle.sqlite_catalog.proofs.SoundLemmas.{lowered}
use Rattle.sqlite.specs.Effect.{Database, IsDatabase}
use Rattle.sqlite.specs.Does.{Does, Tally, lacks_sequence, is_acted_on, UncountsIn}
use Rattle.sqlite.specs.Given.{IsPlain}
use Rattle.sqlite.specs.Listing.{understood}
use Rattle.sqlite.specs.Rows.{sequence, Task}
use Rattle.sqlite.specs.State.{State, mode_of, text_of}
use Rattle.dh_rows.specs.Calls.{compiled_command, IsEdit, IsPlainEdit, EditsTo, EditsAs}
use Rattle.dh_rows.specs.Places.{IsFree, IsUnshared, HasTable, is_at, IsUnreferred, IsUnmentioned, tree_of, table_in, StandsInSchema, unique_keys, ArePlaced, rows_of}
use Rattle.dh_rows.specs.Shapes.{IsLone}
use Rattle.dh_rows.proofs.Create.{row_kept, tree_is}
use Rattle.dh_rows.proofs.Effects.{went, same_ok, trees_apart}
use Rattle.dh_rows.proofs.Indexes.{placed}
use Rattle.dh_rows.proofs.Meaning.{understood_as, compiled_as}
use Rattle.dh_rows.proofs.ShapeLemmas.{found}

-- ---- the text

-- a text that drops the table of this name
pub data IsDrop (text name : List ℕ) : Type 0 where
  drops : {p : Parsed} → first text ≡ Ok p → p.statement ≡ written.DropTable false name → p.formats ≡ [] → is_reserved name ≡ false → IsDrop text name

module _ (schema : Schema) (p : Parsed) (name : List ℕ) (is : p.statement ≡ written.DropTable false name) (formats : p.formats ≡ []) (reserved : is_reserved name ≡ false)
    (at : ℕ) (named : table_named schema name ≡ Some at) (seen : view_named schema name ≡ None) where
  drop_time : timed schema p.formats p.statement ≡ []
  unfolding timed
  drop_time = rw (is, formats) refl

  drop_shows : (base : ℕ) → returning schema base p.statement ≡ Ok None
  unfolding returning
  drop_shows base = rw is refl

  drop_command : (base : ℕ) → command schema p.formats base p.statement ≡ Ok (DropTable at)
  unfolding command drop_table
  drop_command base = rw (is, reserved, seen, named) refl

  drop_means : (text : List ℕ) → first text ≡ Ok p → understood schema text ≡ Ok (with_command p ([], (DropTable at, None)))
  drop_means text read = understood_as schema text _ (compiled_as schema text p [] None (DropTable at) read drop_time (drop_shows _) (drop_command _))

-- ---- lists of which some are left out

module _ {A : Type 0} (test : A → Bool) where
  none_at : (from : ℕ) (xs : List A) → AllByRecursion (λ x. test x ≡ false) xs → position_from test from xs ≡ None
  none_at from [] none = refl
  none_at from (x ∷ xs) none = rw none.0 (none_at (from + 1) xs none.1)

  all_fail : (xs : List A) (from : ℕ) → position_from test from xs ≡ None → AllByRecursion (λ x. test x ≡ false) xs
  all_fail xs from none = all_from _ xs (λ x it. none_placed test xs from x none it)

  -- the first that passes has a place
  record HasPlace (from : ℕ) (x : A) (xs : List A) : Type 0 where
    at : ℕ
    named : position_from test from xs ≡ Some (from + at)
    stands : slice_get xs at ≡ Some x

  first_place : (from : ℕ) (x : A) (xs : List A) → find test xs ≡ Some x → HasPlace from x xs
  first_place from x [] is_first = absurd (cc)
  first_place from x (y ∷ ys) is_first = go (test y) refl is_first (λ later. first_place (from + 1) x ys later)
    where
      go : (passes : Bool) → test y ≡ passes → cond passes (Some y) (find test ys) ≡ Some x → (find test ys ≡ Some x → HasPlace (from + 1) x ys) → HasPlace from x (y ∷ ys)
      go true is here rest = record { at = 0; named = rw is (ap Some (omega arith)); stands = here }
      go false is there rest = let later = rest there in record { at = suc later.at; named = rw is (later.named ∙ ap Some (omega arith)); stands = later.stands }

  -- it stays the first where it is not left out
  first_stays : (keep : A → Bool) (x : A) (xs : List A) → find test xs ≡ Some x → keep x ≡ true → find test (filter keep xs) ≡ Some x
  first_stays keep x [] is_first kept = absurd (cc)
  first_stays keep x (y ∷ ys) is_first kept = go (test y) refl (keep y) refl is_first (λ later. first_stays keep x ys later kept)
    where
      go : (passes : Bool) → test y ≡ passes → (stays : Bool) → keep y ≡ stays → cond passes (Some y) (find test ys) ≡ Some x → (find test ys ≡ Some x → find test (filter keep ys) ≡ Some x)
          → find test (cond stays (y ∷ filter keep ys) (filter keep ys)) ≡ Some x
      go true is true stays here rest = rw is here
      go true is false out here rest = let same : y ≡ x = cc in absurd (true≢false (sym kept ∙ ap keep (sym same) ∙ out))
      go false is true stays there rest = rw is (rest there)
      go false is false out there rest = rest there

-- ---- names

-- a name that is the same as another differs from what that one differs from
differs_too : (a b c : List ℕ) → same_name a b ≡ true → same_name b c ≡ false → same_name a c ≡ false
differs_too a b c same apart = elim (cases_Bool (same_name a c)) [
  | inl too ↦ absurd (true≢false (sym ((lowered b c).1 (sym ((lowered a b).0 same) ∙ (lowered a c).0 too)) ∙ apart))
  | inr differs ↦ differs
]

-- ---- what is left of a schema

module _ (schema : Schema) (t : Table) (was : StandsInSchema schema t) (lone : IsLone schema (tree_of schema t.name) t.name) (alone : IsUnmentioned schema t.name) where
  abbrev tree : ℕ
  tree = tree_of schema t.name

  abbrev stays : Table → Bool
  stays u = not (u.tree == tree)

  abbrev left : Schema
  left = without_table schema tree

  left_out : (n : ℕ) → not (n == tree) ≡ false → n ≡ tree
  left_out n out = elim (cases_Bool (n == tree)) [
    | inl is ↦ eqb-true n tree is
    | inr other ↦ absurd (true≢false (sym (rw other refl) ∙ out))
  ]

  kept_tree : (n : ℕ) → n ≢ tree → not (n == tree) ≡ true
  kept_tree n apart = rw (ne_eqb n tree apart) refl

  -- those that go bear the name
  bear : (u : Table) → Has schema.tables u → stays u ≡ false → same_name u.name t.name ≡ true
  bear u listed out = all_has _ schema.tables u lone listed (left_out u.tree out)

  parent_left : (ref : Reference) → same_name t.name ref.parent ≡ false → parent_key left.tables ref ≡ parent_key schema.tables ref
  parent_left ref apart =
      ap (option_and_then (λ u. option_and_then (key_in u) (key_places u ref.parent_columns)))
      (find_within (λ (u : Table). same_name u.name ref.parent) stays schema.tables (λ u listed out. differs_too u.name t.name ref.parent (bear u listed out) apart))

  references_left : (n : ℕ) (refs : List Reference) → AllByRecursion (λ ref. same_name t.name ref.parent ≡ false) refs → AllByRecursion (λ ref. is_at n (parent_key schema.tables ref) ≡ false) refs
      → AllByRecursion (λ ref. is_at n (parent_key left.tables ref) ≡ false) refs
  references_left n refs = all_both _ _ (λ ref. is_at n (parent_key left.tables ref) ≡ false) (λ ref apart elsewhere. rw (parent_left ref apart) elsewhere) refs

  unreferred_left : (n : ℕ) → IsUnreferred schema n → IsUnreferred left n
  unreferred_left n elsewhere = all-filter _ stays schema.tables (all_both _ _ _ (λ u. references_left n u.references) schema.tables alone elsewhere)

  unmentioned_left : IsUnmentioned left t.name
  unmentioned_left = all-filter _ stays schema.tables alone

  its_table : Has schema.tables (table_in schema t)
  its_table = has_got schema.tables was.at (table_in schema t) was.has.stands

  named_on_left : IsAscending (λ (s : Table) (u : Table). same_name s.name u.name ≡ false) schema.tables → (u : Table) → Has left.tables u → same_name u.name t.name ≡ false
  named_on_left apart u listed = elim (cases_Bool (same_name u.name t.name)) [
    | inl same ↦
        let was_listed = has_filtered stays schema.tables u listed in
        let once : u ≡ table_in schema t = named_once schema.tables u (table_in schema t) apart was_listed.0 its_table same in
        absurd (true≢false (sym was_listed.1 ∙ ap stays once ∙ rw (eq-eqb tree tree refl) refl))
    | inr differs ↦ differs
  ]

  free_left : IsAscending (λ (s : Table) (u : Table). same_name s.name u.name ≡ false) schema.tables → IsUnshared schema t.name → IsFree left t.name
  free_left apart unshared = record {
    tables = none_at (λ (u : Table). same_name u.name t.name) 0 left.tables (all_from _ left.tables (named_on_left apart));
    indexes = none_at (λ (i : Index). same_name i.name t.name) 0 left.indexes (all-filter _ (λ i. not (i.table == tree)) schema.indexes (all_fail (λ (i : Index). same_name i.name t.name) schema.indexes 0 unshared.indexes));
    views = unshared.views;
  }

  -- another free name stays free
  spared_left : (name : List ℕ) → IsFree schema name → IsUnmentioned schema name → IsFree left name × IsUnmentioned left name
  spared_left name free unmentioned = (
    record {
      tables = none_at (λ (u : Table). same_name u.name name) 0 left.tables (all-filter _ stays schema.tables (all_fail (λ (u : Table). same_name u.name name) schema.tables 0 free.tables));
      indexes = none_at (λ (i : Index). same_name i.name name) 0 left.indexes (all-filter _ (λ i. not (i.table == tree)) schema.indexes (all_fail (λ (i : Index). same_name i.name name) schema.indexes 0 free.indexes));
      views = free.views;
    },
    all-filter _ stays schema.tables unmentioned,
  )

  -- another table of ours stays
  module _ (u : Table) (stood : StandsInSchema schema u) (apart : same_name u.name t.name ≡ false) where
    abbrev its : ℕ
    its = tree_of schema u.name

    other : its ≢ tree
    other = trees_apart schema t u was stood apart

    abbrev named : Table → Bool
    named v = same_name v.name u.name

    place_left : HasPlace named 0 (table_in schema u) left.tables
    place_left = first_place named 0 (table_in schema u) left.tables (first_stays named stays (table_in schema u) schema.tables (found named schema.tables stood.at (table_in schema u) stood.has.named stood.has.stands) (kept_tree its other))

    has_left : HasTable left u.name place_left.at (table_in schema u)
    has_left = record {
      named = place_left.named ∙ ap Some (omega arith);
      stands = place_left.stands;
      found = first_stays (λ v. v.tree == its) stays (table_in schema u) schema.tables stood.has.found (kept_tree its other);
    }

    tree_left : tree_of left u.name ≡ its
    tree_left = tree_is left u.name place_left.at (table_in schema u) has_left

    on_it : (i : Index) → i.is_unique && (i.table == its) ≡ true → i.table ≡ its
    on_it i on = elim (cases_Bool (i.table == its)) [
      | inl is ↦ eqb-true i.table its is
      | inr elsewhere ↦ absurd (fails i.is_unique (rw elsewhere at on))
    ]
      where
        fails : (b : Bool) → b && false ≡ true → ⊥
        fails true e = cc
        fails false e = cc

    keyed_left : unique_keys left its ≡ unique_keys schema its
    keyed_left = ap (map (λ (i : Index). (i.columns, i.order))) (filter-filter (λ (i : Index). i.is_unique && (i.table == its)) (λ i. not (i.table == tree)) (λ i on. kept_tree i.table (λ same. other (sym (on_it i on) ∙ same))) schema.indexes)

    stands_left : StandsInSchema left u
    stands_left = record {
      at = place_left.at;
      has = subst (λ n. HasTable left u.name place_left.at (record u { tree = n })) (sym tree_left) has_left;
      stored = subst (λ n. n < 2 ^ 31) (sym tree_left) stood.stored;
      unreferred = subst (IsUnreferred left) (sym tree_left) (unreferred_left its stood.unreferred);
      keyed = ap (unique_keys left) tree_left ∙ keyed_left ∙ stood.keyed;
    }

  abbrev counting : List ℕ
  counting = codes "sqlite_sequence"

  -- where rowids are counted the table that counts is there, as before
  counted_left : same_name t.name counting ≡ false → lacks_sequence schema ≡ false → lacks_sequence left ≡ false
  counted_left apart fine = go (list_any (λ u. u.is_counted) schema.tables) refl (table_named schema counting) refl
    where
      either_false : (b : Bool) → b && false ≡ false
      either_false true = refl
      either_false false = refl

      go : (b : Bool) → list_any (λ u. u.is_counted) schema.tables ≡ b → (o : Option ℕ) → table_named schema counting ≡ o → lacks_sequence left ≡ false
      go false none o is = rw (any_from_none (λ (u : Table). u.is_counted) left.tables (all-filter _ stays schema.tables (none_from_any (λ u. u.is_counted) schema.tables none))) refl
      go true some None is = absurd (true≢false (sym (rw (some, is) refl) ∙ fine))
      go true some (Some at) is = there (slice_get schema.tables at) refl
        where
          there : (o : Option Table) → slice_get schema.tables at ≡ o → lacks_sequence left ≡ false
          there None none = absurd (true≢false (sym (rw (some, is, none) refl) ∙ fine))
          there (Some counter) stands =
              let is_first = found (λ (u : Table). same_name u.name counting) schema.tables at counter is stands in
              let listed = has_found (λ (u : Table). same_name u.name counting) schema.tables counter is_first in
              let kept : stays counter ≡ true = elim (cases_Bool (stays counter)) [
                | inl kept ↦ kept
                | inr out ↦ absurd (true≢false (sym listed.1 ∙ differs_too counter.name t.name counting (bear counter listed.0 out) apart))
              ] in
              let place = first_place (λ (u : Table). same_name u.name counting) 0 counter left.tables (first_stays (λ (u : Table). same_name u.name counting) stays counter schema.tables is_first kept) in
              let named : table_named left counting ≡ Some place.at = place.named ∙ ap Some (omega arith) in
              rw (named, place.stands) (either_false (list_any (λ u. u.is_counted) left.tables))

-- ---- the effect

-- no foreign key acts on the rows that go
unacted : (schema : Schema) (keys : Keys) (table : Table) → IsUnmentioned schema table.name → is_acted_on schema keys table ≡ false
unacted schema keys table alone = any_from_none _ schema.tables (all_weaker _ _ (λ u apart. any_from_none _ u.references (all_weaker _ _ (λ ref differs. rw differs refl) u.references apart)) schema.tables alone)

-- The table is gone, each other table of ours stands as it did, and free names stay free.
pub record Drops (t : Table) (db after : Database) : Type 0 where
  pub free : IsFree after.schema t.name
  pub unmentioned : IsUnmentioned after.schema t.name
  pub spared : (name : List ℕ) → IsFree db.schema name → IsUnmentioned db.schema name → IsFree after.schema name × IsUnmentioned after.schema name
  pub others : (u : Table) → StandsInSchema db.schema u → same_name u.name t.name ≡ false → StandsInSchema after.schema u × (rows_of after u.name ≡ rows_of db u.name)
  pub counted : lacks_sequence after.schema ≡ false
  pub placed : ArePlaced after.schema

-- what `change` asks of the text, and what it then does
pub record DropsTable (s : State) (text : List ℕ) (t : Table) : Type 0 where
  pub edit : IsPlainEdit s text
  pub dropped : (after : Database) → EditsTo s text [] after → Drops t s.now after

when_false : (b : Bool) (P Q : Type 0) → b ≡ false → MatchBool b P Q → Q
when_false true P Q off it = absurd (cc)
when_false false P Q off it = it

uncounted_by : (task : Task) (db : Trees) (b : Bool) (o : Option Table) (out : Trees) → b ≡ false → UncountsIn task db (if b then o else None) (Ok out) → out ≡ db
uncounted_by task db true o out off it = absurd (cc)
uncounted_by task db false o out off it = same_ok it

dropped_by : (s : State) (t : Table) (was : StandsInSchema s.now.schema t) (statement : List ℕ) (tally : Tally) (after : Database) → t.is_counted ≡ false → IsUnmentioned s.now.schema t.name
    → Does s.step_limit (mode_of s) [] s.now statement None (DropTable was.at) (Ok (tally, after))
    → (after.schema ≡ without_table s.now.schema (tree_of s.now.schema t.name)) × KeepsRows (without_table s.now.schema (tree_of s.now.schema t.name)).tables s.now.trees after.trees
dropped_by s t was statement tally after uncounted alone does =
    let schema = s.now.schema in
    let kept : List Table = (without_table schema (tree_of schema t.name)).tables in
    let task : Task = record { limit = s.step_limit; keys = (mode_of s).keys; schema = schema; table = table_in schema t; params = [] } in
    let emptied = went (rw was.has.stands at does) in
    let same : emptied.0 ≡ s.now.trees = same_ok (when_false _ _ _ (unacted schema (mode_of s).keys (table_in schema t) alone) emptied.1) in
    let uncounts = went emptied.2 in
    let still : uncounts.0 ≡ emptied.0 = uncounted_by task emptied.0 t.is_counted (sequence schema) uncounts.0 uncounted uncounts.1 in
    let gone = went (went uncounts.2).2 in
    let last : after ≡ gone.0 = ap (λ (p : Tally × Database). p.1) (same_ok gone.2) in (
      ap (λ (d : Database). d.schema) last ∙ gone.1.0,
      subst (λ (d : Database). KeepsRows kept s.now.trees d.trees) (sym last) (subst (λ old. KeepsRows kept old gone.0.trees) (still ∙ same) gone.1.1),
    )

pub drops_table : (t : Table) (text : List ℕ) → IsDrop text t.name → t.is_counted ≡ false → same_name t.name (codes "sqlite_sequence") ≡ false → (s : State) → IsDatabase s.now → StandsInSchema s.now.schema t
    → IsLone s.now.schema (tree_of s.now.schema t.name) t.name → IsUnmentioned s.now.schema t.name → IsUnshared s.now.schema t.name → lacks_sequence s.now.schema ≡ false → DropsTable s text t
drops_table t text (drops {p = p} read is formats reserved) uncounted apart s sound was lone alone unshared counted =
    let means = drop_means s.now.schema p t.name is formats reserved was.at was.has.named unshared.views text read in
    record { edit = record { plain = subst IsPlain (sym means) (refl, refl); edits = subst (λ r. IsEdit (compiled_command r)) (sym means) tt }; dropped = λ after edits. go after (subst (EditsAs s text [] after) means edits) }
  where
    go : (after : Database) → EditsAs s text [] after (Ok (with_command p ([], (DropTable was.at, None)))) → Drops t s.now after
    go after it =
        let schema = s.now.schema in
        let done = dropped_by s t was (text_of text (with_command p ([], (DropTable was.at, None)))) it.0 after uncounted alone it.1 in
        record {
          free = subst (λ d. IsFree d t.name) (sym done.0) (free_left schema t was lone alone sound.lists.listed.named unshared);
          unmentioned = subst (λ d. IsUnmentioned d t.name) (sym done.0) (unmentioned_left schema t was lone alone);
          spared = λ name free unmentioned. subst (λ d. IsFree d name × IsUnmentioned d name) (sym done.0) (spared_left schema t was lone alone name free unmentioned);
          others = λ u stood differs.
              let place = place_left schema t was lone alone u stood differs in
              let tree = tree_left schema t was lone alone u stood differs in (
                subst (λ d. StandsInSchema d u) (sym done.0) (stands_left schema t was lone alone u stood differs),
                ap (λ d. after.trees (tree_of d u.name)) done.0 ∙ ap after.trees tree ∙ row_kept _ place.at (table_in schema u) s.now.trees after.trees place.stands done.1,
              );
          counted = ap lacks_sequence done.0 ∙ counted_left schema t was lone alone apart counted;
          placed = placed after it.2;
        }
