-- What a statement does to one table among others, in terms of its records.
use Rattle.std.proofs.Common.{◌≡◌, ◌≢◌, ◌⊎◌, inl, inr, ℕ, zero, suc, ℤ, List, [], ◌∷◌, length, map, filter, not, Bool, true, false, Option, None, Some, Ok, Err, Result, slice_get, find, ◌==◌, ◌/◌, refl, sym, ap, ap₂, subst, ◌∙◌, true≢false, append-nil}
use Rattle.std.specs.List.{AllByRecursion}
use Rattle.std.proofs.lemmas.List.Sorted.{All-permutation}
use Rattle.std.proofs.lemmas.List.Elements.{recursion_from_All, All-from_recursion}
use Rattle.sqlite_value.specs.declared.value.Value.{Value}
use Rattle.sqlite_value.specs.declared.value.Value.TheVariants.{Null, Int, Text}
use Rattle.sqlite_value.specs.declared.keys.Key.{Key}
use Rattle.sqlite_value.specs.Order.{Row}
use Rattle.sqlite_trees.specs.Tree.{Trees}
use Rattle.sqlite_sql.specs.Ops.{unary}
use Rattle.sqlite_sql.specs.Term.{Term, col}
use Rattle.sqlite_sql.specs.Query.{Query, IsAnswer, key_cmp}
use Rattle.sqlite_sql.specs.Program.{overlay}
use Rattle.sqlite_schema.specs.declared.schema.Kind.{Kind}
use Rattle.sqlite_schema.specs.declared.schema.Kind.TheVariants as kind
use Rattle.sqlite_schema.specs.declared.schema.Column.{Column}
use Rattle.sqlite_schema.specs.declared.schema.Table.{Table}
use Rattle.sqlite_schema.specs.declared.schema.Schema.{Schema}
use Rattle.sqlite_schema.specs.declared.command.Command.TheVariants.{Select, Insert, Delete}
use Rattle.sqlite_schema.specs.declared.command.Source.TheVariants.{Values}
use Rattle.sqlite_schema.specs.Names.{same_name}
use Rattle.sqlite_rules.specs.declared.error.Rowids.TheVariants.{Chosen, Given}
use Rattle.sqlite_rules.specs.Edit.{edit_of, Applies, with_rowid, next_rowid}
use Rattle.sqlite_rules.specs.Calls.{ids_of}
use Rattle.sqlite_rules.specs.Cast.{cast, cast_all, cast_row}
use Rattle.sqlite_keyed.proofs.SortLemmas.{IsPermutation-sort_by}
use Rattle.sqlite_catalog.proofs.StepLemmas.{same_itself}
use Rattle.sqlite.specs.Effect.{Database, Reads, value_rows}
use Rattle.sqlite.specs.Does.{Does, Tally}
use Rattle.sqlite.specs.Rows.{Written}
use Rattle.sqlite.specs.declared.run.Mode.{Mode}
use Rattle.sqlite.proofs.Callers.{one_step}
use Rattle.dh_rows.specs.Keyed.{Coding, IsTableOf, by_key, same_key, IsFreeKey, added, records_in_rows}
use Rattle.dh_rows.specs.Places.{HasTable, IsUnreferred, tree_of, table_in, StandsInSchema, rows_of, records_of, KeepsTable}
use Rattle.dh_rows.proofs.Alone.{works_none}
use Rattle.dh_rows.proofs.Terms.{from_table}
use Rattle.dh_rows.proofs.Lists.{by_key_total}
use Rattle.dh_rows.proofs.Shapes.{matching, outp, reads_records, dropped, inserted}

-- a part that gave a value did not stop on the way
pub went : {B E R : Type 0} {b : B} {Stops : E → Type 0} → ((stop : E) × Stops stop × (Ok b ≡ Err stop)) ⊎ R → R
went (inl stopped) = absurd (let e = stopped.2 in cc)
went (inr on) = on

pub same_ok : {B E : Type 0} {a b : B} → ◌≡◌ {A = Result B E} (Ok a) (Ok b) → a ≡ b
same_ok e = cc

-- a table that keeps no rowid in a column, no count and no default that reads the time
abbrev pub simplified : Table → Table
simplified t = record t { key = None; is_counted = false; stamps = record { places = []; terms = []; formats = [] } }

abbrev pub IsSimple : Table → Type 0
IsSimple t = t ≡ simplified t

-- the value is of the kind of the column
abbrev pub IsOfKind : Kind → Value → Type 0
IsOfKind kind.Integer (Int n) = Unit {0}
IsOfKind kind.Text (Text s) = Unit {0}
IsOfKind kind.Blob v = Unit {0}
IsOfKind kind.Any v = Unit {0}
IsOfKind _ _ = ⊥

abbrev pub AreOfKinds : List Column → Row → Type 0
AreOfKinds [] [] = Unit {0}
AreOfKinds (c ∷ cs) (v ∷ vs) = IsOfKind c.kind v × AreOfKinds cs vs
AreOfKinds _ _ = ⊥

either : (b : Bool) (x : Value) → Rattle.std.proofs.Common.cond b x x ≡ x
either true x = refl
either false x = refl

pub cast_null : cast kind.Integer Null ≡ Null
unfolding unary
cast_null = either _ Null

pub cast_int : (n : ℤ) → cast kind.Integer (Int n) ≡ Int n
unfolding unary
cast_int n = either _ (Int n)

cast_same : (k : Kind) (v : Value) → IsOfKind k v → cast k v ≡ v
cast_same kind.Integer (Int n) h = cast_int n
cast_same kind.Text (Text s) h = refl
cast_same kind.Blob v h = refl
cast_same kind.Any v h = refl
cast_same _ _ h = absurd h

pub casts_same : (cs : List Column) (vs : Row) → AreOfKinds cs vs → cast_all cs vs ≡ vs
casts_same [] [] h = refl
casts_same (c ∷ cs) (v ∷ vs) h = ap₂ ◌∷◌ (cast_same c.kind v h.0) (casts_same cs vs h.1)
casts_same _ _ h = absurd h

-- ---- the statement as one edit

module _ (limit : Option ℕ) (mode : Mode) (db after : Database) (name : List ℕ) (at : ℕ) (table : Table) (has : HasTable db.schema name at table) (unreferred : IsUnreferred db.schema table.tree) (params : Row) (text : List ℕ) (tally : Tally) where
  deletes : (q : Query) → Does limit mode params db text None (Delete at (record { lets = []; body = q })) (Ok (tally, after))
      → (found : List Row) × IsAnswer q (overlay db.trees []) params found × (after.schema ≡ db.schema)
      × Applies db.schema mode.keys db.trees (edit_of db.trees table (ids_of found) Given 0 []) after.trees
  deletes q does =
      let all = went (rw has.stands at does) in
      let now = ap (λ (p : Tally × Database). p.1) (same_ok (went (went all.2).2).2) in
      let given = went all.1 in
      let edit = went given.2 in
      let trees : all.0.trees ≡ edit.0 = ap (λ (it : Written). it.trees) (same_ok edit.2) in
      let next : after.trees ≡ edit.0 = ap (λ (d : Database). d.trees) now ∙ trees in (
        given.0,
        given.1.answer Null,
        ap (λ (d : Database). d.schema) now,
        subst (Applies db.schema mode.keys db.trees (edit_of db.trees table (ids_of given.0) Given 0 [])) (sym next)
            (one_step db.schema mode.keys db.trees edit.0 (edit_of db.trees table (ids_of given.0) Given 0 []) (works_none db.schema mode.keys 0 table.tree _ [] unreferred) edit.1),
      )

  -- the sources are one row
  inserts : IsSimple table → (terms : List Term) (width : ℕ) (source : Row) → value_rows params width (length terms / width) terms ≡ source ∷ []
      → Does limit mode params db text None (Insert at (Values terms width)) (Ok (tally, after))
      → (after.schema ≡ db.schema) × Applies db.schema mode.keys db.trees (edit_of db.trees table [] Chosen 0 (source ∷ [])) after.trees
  inserts simple terms width source one does =
      let stands : slice_get db.schema.tables at ≡ Some (simplified table) = has.stands ∙ ap Some simple in
      let done = went (rw stands at does) in
      let now = ap (λ (p : Tally × Database). p.1) (same_ok (went (went done.2).2).2) in
      let given = went done.1 in
      let written = went (went given.2).2 in
      let counted = went written.2 in
      let trees : done.0.trees ≡ written.0 = ap (λ (it : Written). it.trees) (same_ok counted.2) ∙ same_ok counted.1 in
      let next : after.trees ≡ written.0 = ap (λ (d : Database). d.trees) now ∙ trees in
      let applies = one_step db.schema mode.keys db.trees written.0 (edit_of db.trees (simplified table) [] Chosen 0 given.0) (works_none db.schema mode.keys 0 table.tree [] (edit_of db.trees (simplified table) [] Chosen 0 given.0).news unreferred) written.1 in
      let rows : given.0 ≡ source ∷ [] = given.1.1 ∙ ap (λ p. value_rows p width (length terms / width) terms) (append-nil params) ∙ one in (
        ap (λ (d : Database). d.schema) now,
        subst (λ (u : Table). Applies db.schema mode.keys db.trees (edit_of db.trees u [] Chosen 0 (source ∷ [])) after.trees) (sym simple)
            (subst (λ rows. Applies db.schema mode.keys db.trees (edit_of db.trees (simplified table) [] Chosen 0 rows) after.trees) rows (subst (Applies db.schema mode.keys db.trees (edit_of db.trees (simplified table) [] Chosen 0 given.0)) (sym next) applies)),
      )

-- ---- other tables

row_kept : (next : Trees) (db : Trees) (tables : List Table) (tree place : ℕ) (other : Table) → slice_get tables place ≡ Some other → other.tree ≢ tree → AllByRecursion (λ t. t.tree ≢ tree → next t.tree ≡ db t.tree) tables → next other.tree ≡ db other.tree
row_kept next db [] tree place other e apart all = absurd (cc)
row_kept next db (t ∷ ts) tree zero other e apart all = let same : t ≡ other = cc in subst (λ (u : Table). u.tree ≢ tree → next u.tree ≡ db u.tree) same all.0 apart
row_kept next db (t ∷ ts) tree (suc place) other e apart all = row_kept next db ts tree place other e apart all.1

-- two tables of other names have other trees
pub trees_apart : (schema : Schema) (t u : Table) → StandsInSchema schema t → StandsInSchema schema u → same_name u.name t.name ≡ false → tree_of schema u.name ≢ tree_of schema t.name
trees_apart schema t u s v apart e =
    let both : Some (table_in schema u) ≡ Some (table_in schema t) = sym v.has.found ∙ ap (λ tree. find (λ x. x.tree == tree) schema.tables) e ∙ s.has.found in
    let same : table_in schema u ≡ table_in schema t = cc in
    true≢false (sym (same_itself t.name) ∙ ap (λ n. same_name n t.name) (sym (ap (λ (x : Table). x.name) same)) ∙ apart)

-- The records of one table are changed, and each other table keeps its rows.
pub record TurnsTable (t : Table) {X : Type 0} (c : Coding X) (change : List X → List X) (db after : Database) : Type 0 where
  pub schema : after.schema ≡ db.schema
  pub keeps : KeepsTable t c after
  pub records : records_of c t.name after ≡ change (records_of c t.name db)
  pub others : (u : Table) → StandsInSchema db.schema u → same_name u.name t.name ≡ false → rows_of after u.name ≡ rows_of db u.name

-- another table of ours is as it was
pub other_keeps : {X Y : Type 0} {t : Table} {c : Coding X} {change : List X → List X} {db after : Database} → TurnsTable t c change db after → (u : Table) (d : Coding Y) → KeepsTable u d db → same_name u.name t.name ≡ false
    → KeepsTable u d after × (records_of d u.name after ≡ records_of d u.name db)
other_keeps {db = db} {after = after} it u d keeps apart =
    let rows = it.others u keeps.stands apart in
    (record { stands = subst (λ s. StandsInSchema s u) (sym it.schema) keeps.stands; rows = subst (IsTableOf d) (sym rows) keeps.rows }, ap (records_in_rows d) rows)

pub turned : {X : Type 0} (t : Table) (c : Coding X) (change : List X → List X) (db after : Database) → StandsInSchema db.schema t → after.schema ≡ db.schema
    → ((u : Table) → StandsInSchema db.schema u → same_name u.name t.name ≡ false → after.trees (tree_of db.schema u.name) ≡ rows_of db u.name)
    → IsTableOf c (after.trees (tree_of db.schema t.name)) → records_in_rows c (after.trees (tree_of db.schema t.name)) ≡ change (records_of c t.name db) → TurnsTable t c change db after
turned t c change db after stands same others is are =
    let tree : (name : List ℕ) → after.trees (tree_of after.schema name) ≡ after.trees (tree_of db.schema name) = λ name. ap (λ s. after.trees (tree_of s name)) same in
    record {
      schema = same;
      keeps = record { stands = subst (λ s. StandsInSchema s t) (sym same) stands; rows = subst (IsTableOf c) (sym (tree t.name)) is };
      records = ap (records_in_rows c) (tree t.name) ∙ are;
      others = λ u s apart. tree u.name ∙ others u s apart;
    }

unsorted : {X : Type 0} (c : Coding X) (rows : List Row) (P : X → Type 0) → AllByRecursion P (records_in_rows c rows) → AllByRecursion P (map c.decode rows)
unsorted c rows P all = recursion_from_All P _ (All-permutation P _ _ (IsPermutation-sort_by (by_key c.key) (by_key_total c.key) (map c.decode rows)) (All-from_recursion P _ all))

module _ (limit : Option ℕ) (mode : Mode) (db after : Database) (t : Table) {X : Type 0} (c : Coding X) (keeps : KeepsTable t c db) (params : Row) (text : List ℕ) (tally : Tally) where
  abbrev its : Table
  its = table_in db.schema t

  abbrev tree : ℕ
  tree = tree_of db.schema t.name

  pub kept : (next : Trees) → AllByRecursion (λ u. u.tree ≢ tree → next u.tree ≡ db.trees u.tree) db.schema.tables
      → (u : Table) → StandsInSchema db.schema u → same_name u.name t.name ≡ false → next (tree_of db.schema u.name) ≡ rows_of db u.name
  kept next all u stands apart = row_kept next db.trees db.schema.tables tree stands.at (table_in db.schema u) stands.has.stands (trees_apart db.schema t u keeps.stands stands apart) all

  -- DELETE takes out the records that pass the test
  pub delete_turns : (terms : List Term) (test : X → Bool) → ((n : ℤ) (x : X) → matching terms params (Int n ∷ c.encode x) ≡ test x)
      → Does limit mode params db text None (Delete keeps.stands.at (record { lets = []; body = from_table tree terms (col 1 0 ∷ []) [] })) (Ok (tally, after))
      → TurnsTable t c (filter (λ x. not (test x))) db after
  delete_turns terms test sees does =
      let it = deletes limit mode db after t.name keeps.stands.at its keeps.stands.has keeps.stands.unreferred params text tally _ does in
      let mine = dropped c its terms params test sees db.schema mode.keys db.trees after.trees it.0 keeps.rows it.1 it.3 in
      turned t c _ db after keeps.stands it.2 (kept after.trees it.3.tables) mine.0 mine.1

  -- INSERT adds the record, whose key is free
  pub insert_turns : IsSimple t → (x : X) (terms : List Term) (width : ℕ) → ((n : ℤ) → c.decode (Int n ∷ c.encode x) ≡ x) → AreOfKinds t.columns (c.encode x)
      → value_rows params width (length terms / width) terms ≡ (Null ∷ c.encode x) ∷ [] → IsFreeKey c.key x (records_of c t.name db)
      → Does limit mode params db text None (Insert keeps.stands.at (Values terms width)) (Ok (tally, after))
      → TurnsTable t c (added c.key x) db after
  insert_turns simple x terms width back kinds one free does =
      let plain : IsSimple its = ap (λ (u : Table). record u { tree = tree }) simple in
      let it = inserts limit mode db after t.name keeps.stands.at its keeps.stands.has keeps.stands.unreferred params text tally plain terms width (Null ∷ c.encode x) one does in
      let cells : cast_row its (Null ∷ c.encode x) ≡ Null ∷ c.encode x = ap₂ ◌∷◌ cast_null (casts_same t.columns (c.encode x) kinds) in
      let mine = inserted c its x (Null ∷ c.encode x) back (λ d. (next_rowid (d tree), ap (with_rowid Chosen (d tree)) cells)) db.schema mode.keys db.trees after.trees keeps.rows (unsorted c _ (λ y. same_key c.key x y ≡ false) free) it.1 in
      turned t c _ db after keeps.stands it.0 (kept after.trees it.1.tables) mine.0 mine.1

-- SELECT answers the records that pass the test, in the order of their keys
pub select_reads : (db : Database) (t : Table) {X : Type 0} (c : Coding X) → KeepsTable t c db → (params : Row) (terms shown : List Term) (order : List (Term × Key)) (names : List (List ℕ)) (test : X → Bool) (show : X → Row)
    → ((n : ℤ) (x : X) → matching terms params (Int n ∷ c.encode x) ≡ test x)
    → ((n : ℤ) (x : X) → outp c terms shown order (tree_of db.schema t.name) params (Int n ∷ c.encode x) ≡ (c.key x, show x))
    → ((x y : X) → key_cmp 0 (map (λ k. k.1) order) (c.key x) (c.key y) ≡ by_key c.key x y)
    → (rows : List Row) → Reads (Select (record { lets = []; body = from_table (tree_of db.schema t.name) terms shown order }) names) db params rows
    → rows ≡ map show (filter test (records_of c t.name db))
select_reads db t c keeps params terms shown order names test show sees shows sorts rows h =
    reads_records c terms shown order (tree_of db.schema t.name) params test c.key show sees shows sorts db.trees rows keeps.rows (h.answer Null)
