-- INSERT .. ON CONFLICT (the key) DO UPDATE SET ..: what it means at any schema, and what it does to one table among others.
use Rattle.std.proofs.Common.{◌≡◌, ◌≢◌, ◌+◌, ◌^◌, ◌&&◌, ◌/◌, ◌==◌, ℕ, ℤ, List, [], ◌∷◌, ◌++◌, length, map, filter, Bool, true, false, not, bytes_eq, Option, None, Some, Ok, slice_get, refl, sym, ap, ap₂, subst, ◌∙◌, inl, inr, is_eq, codes, append-nil, IsPermutation}
use Rattle.std.specs.List.{AllByRecursion}
use Rattle.std.proofs.lemmas.Bool.{lt-leb}
use Rattle.std.proofs.lemmas.Cmp.{tied_itself}
use Rattle.std.proofs.Math.Bool.{and-true}
use Rattle.sqlite_value.proofs.OrderLemmas.{value_cmp_total}
use Rattle.sqlite_value.specs.declared.value.Value.{Value}
use Rattle.sqlite_value.specs.declared.value.Value.TheVariants.{Null, Int}
use Rattle.sqlite_value.specs.declared.keys.Collation.TheVariants.{Binary}
use Rattle.sqlite_value.specs.Keys.{plain}
use Rattle.sqlite_value.specs.Order.{Row, column, value_cmp}
use Rattle.sqlite_trees.specs.Tree.{rowid, has_rowid}
use Rattle.sqlite_ast.specs.declared.Upsert.{Upsert as Written}
use Rattle.sqlite_ast.specs.declared.Rows.{Rows}
use Rattle.sqlite_ast.specs.declared.Statement.TheVariants as written
use Rattle.sqlite_ast.specs.declared.Conflict.TheVariants as conflict
use Rattle.sqlite_syntax.specs.declared.statement.Parsed.{Parsed}
use Rattle.sqlite_sql.specs.declared.ops.BinaryOp.TheVariants as by
use Rattle.sqlite_sql.specs.declared.ops.CompareOp.TheVariants as compare
use Rattle.sqlite_sql.specs.Ops.{binary, is_true}
use Rattle.sqlite_sql.specs.Term.{Term, col, op2, eval_all}
use Rattle.sqlite_sql.specs.Query.{IsAnswer, Output}
use Rattle.sqlite_sql.specs.Program.{overlay}
use Rattle.sqlite_schema.specs.declared.schema.Table.{Table}
use Rattle.sqlite_schema.specs.declared.schema.Schema.{Schema}
use Rattle.sqlite_schema.specs.declared.schema.Keys.{Keys}
use Rattle.sqlite_schema.specs.declared.command.Conflict.TheVariants as how
use Rattle.sqlite_schema.specs.declared.command.Command.TheVariants.{InsertOr}
use Rattle.sqlite_schema.specs.declared.command.Source.{Source}
use Rattle.sqlite_schema.specs.declared.command.Source.TheVariants.{Values}
use Rattle.sqlite_schema.specs.declared.command.Upsert.{Upsert}
use Rattle.sqlite_schema.specs.declared.program.Program.{Program}
use Rattle.sqlite_schema.specs.Names.{table_named}
use Rattle.sqlite_schema.specs.Rules.{agree}
use Rattle.sqlite_draft.specs.declared.query.Draft.{Draft}
use Rattle.sqlite_draft.specs.declared.join.Step.TheVariants.{Inner}
use Rattle.sqlite_typing.specs.Types.{row_classes, are_typed}
use Rattle.sqlite_resolve.specs.Scope.{Context}
use Rattle.sqlite_resolve.specs.Given.{upserts, upsert, update, do_update, key_meant, key_at, at_rowid, nested, with_given, given_level, are_among}
use Rattle.sqlite_resolve.specs.Write.{places, level_of, updated_in, simple as drafted}
use Rattle.sqlite_resolve.specs.Program.{program}
use Rattle.sqlite_resolve.specs.Compile.{first, command, with_command, small, new_rows, insert_or_abort, insert_or}
use Rattle.sqlite_rules.specs.declared.error.Rowids.TheVariants.{Chosen, Given}
use Rattle.sqlite_rules.specs.Edit.{edit_of, id_in, Applies, with_rowid, next_rowid, without_all}
use Rattle.sqlite_rules.specs.Calls.{ids_of}
use Rattle.sqlite_rules.specs.Cast.{cast, cast_row}
use Rattle.sqlite_schema.specs.declared.schema.Kind.TheVariants as kind
use Rattle.sqlite_rules.specs.Keys.{AreConflicts, conflicts}
use Rattle.sqlite_rules.specs.Lists.{Has}
use Rattle.sqlite_rules.proofs.ListLemmas.{all_has, all_from}
use Rattle.sqlite.specs.declared.run.Mode.{Mode}
use Rattle.sqlite.specs.Effect.{Database, value_rows}
use Rattle.sqlite.specs.Given.{IsPlain}
use Rattle.sqlite.specs.Listing.{understood}
use Rattle.sqlite.specs.Does.{Does, Tally}
use Rattle.sqlite.specs.Rows.{Written as Wrote, Task, Tries, TriesEach, Meets, Upserts, Puts, Clears, shown as laid, nothing, count_of}
use Rattle.sqlite.proofs.Callers.{one_step, one_permutation}
use Rattle.dh_rows.specs.Calls.{compiled_command}
use Rattle.dh_rows.specs.Keyed.{Coding, IsCoded, IsTableOf, same_key, put, records_in_rows}
use Rattle.dh_rows.specs.Places.{HasTable, IsUnreferred, tree_of, table_in, unique_keys, StandsInSchema, KeepsTable}
use Rattle.dh_rows.proofs.Alone.{works_none}
use Rattle.dh_rows.proofs.Equal.{equal_int}
use Rattle.dh_rows.proofs.Indexes.{key_found, conflict_is}
use Rattle.dh_rows.proofs.Meaning.{inserted}
use Rattle.dh_rows.proofs.Replaced.{one_left, one_rowid, all_left, filter_alike, same_row, replaced}
use Rattle.dh_rows.proofs.Shapes.{matching, outp, answered, filter_same_on}
use Rattle.dh_rows.proofs.Terms.{from_table}
use Rattle.dh_rows.proofs.Texts.{Means}
use Rattle.dh_rows.proofs.Effects.{IsSimple, simplified, AreOfKinds, TurnsTable, went, same_ok, cast_null, cast_int, casts_same, kept, turned}

-- ---- the text

-- the rowid is the parameter at this place, which the row that is met gives
abbrev pub met_at : ℕ → Term
met_at base = op2 (by.Compare compare.Eq Binary) (col 1 0) (col 0 base)

-- the old rowid and then the new row, of the row that is met
abbrev pub changed : ℕ → ℕ → List Term → Program
changed tree base new = record { lets = []; body = from_table tree (met_at base ∷ []) new [] }

-- A text that puts one row of these terms, and in place of a row that has its key these; the parameters are so many.
pub data IsUpsert (schema : Schema) (t : Table) (tree : ℕ) (text : List ℕ) (terms : List Term) (width base : ℕ) (new : List Term) : Type 0 where
  puts : {p : Parsed} {columns : List (List ℕ)} {rows : Rows} {u : Written} → first text ≡ Ok p → p.statement ≡ written.Insert conflict.Abort t.name columns rows (u ∷ []) [] → p.formats ≡ [] → small p.names + small [] ≡ base
      → new_rows schema (record t { tree = tree }) base columns rows ≡ Ok (Values terms width) → length u.target == 0 ≡ false → places (record t { tree = tree }) u.target ≡ Ok t.primary → length u.sets == 0 ≡ false
      → ((cx : Context) → updated_in cx (record t { tree = tree }) u.sets u.filter ≡ Ok (drafted (Inner tree ∷ []) [] new)) → IsUpsert schema t tree text terms width base new

module _ (schema : Schema) (p : Parsed) (name : List ℕ) (columns : List (List ℕ)) (rows : Rows) (u : Written) (is : p.statement ≡ written.Insert conflict.Abort name columns rows (u ∷ []) []) (formats : p.formats ≡ [])
    (at : ℕ) (table : Table) (named : table_named schema name ≡ Some at) (stands : slice_get schema.tables at ≡ Some table) (plain_table : table.stamps.formats ≡ []) where
  abbrev over : ℕ → Context
  over base = nested (with_given schema table base) (level_of at table.name) (given_level schema (codes "excluded") [])

  key_as : (key : List ℕ) → length u.target == 0 ≡ false → places table u.target ≡ Ok key → key_at schema table key ≡ Ok key → key_meant schema table u.target ≡ Ok (Some key)
  unfolding key_meant
  key_as key some is found = rw (some, is, found) refl

  update_as : (base : ℕ) (d : Draft) (q : Program) → length u.sets == 0 ≡ false → updated_in (over base) table u.sets u.filter ≡ Ok d → program schema [] (at_rowid base d) ≡ Ok q → update schema at table base u ≡ Ok (Some q)
  unfolding update do_update
  update_as base d q some drafts prog = rw (some, drafts, prog) refl

  upserts_as : (base : ℕ) (key : List ℕ) (q : Program) → length u.target == 0 ≡ false → key_meant schema table u.target ≡ Ok (Some key) → update schema at table base u ≡ Ok (Some q)
      → upserts schema at table base (u ∷ []) ≡ Ok (record { target = Some key; update = Some q } ∷ [])
  unfolding upserts upsert
  upserts_as base key q some meant prog = rw (some, meant, prog) refl

  commands : (base : ℕ) (source : Source) (clauses : List Upsert) → new_rows schema table base columns rows ≡ Ok source → upserts schema at table base (u ∷ []) ≡ Ok clauses → command schema p.formats base p.statement ≡ Ok (InsertOr at how.Abort source clauses)
  unfolding command insert_or_abort insert_or
  commands base source clauses given ups = rw (is, named, stands, given, ups) refl

  put_means : (text : List ℕ) (source : Source) (clauses : List Upsert) → first text ≡ Ok p → new_rows schema table (small p.names + small []) columns rows ≡ Ok source → upserts schema at table (small p.names + small []) (u ∷ []) ≡ Ok clauses
      → understood schema text ≡ Ok (with_command p ([], (InsertOr at how.Abort source clauses, None)))
  put_means text source clauses read given ups = inserted schema p name columns rows formats at table named stands plain_table (u ∷ []) is text (InsertOr at how.Abort source clauses) read (commands _ source clauses given ups)

-- the clause, as it stands in the command
abbrev pub clause_for : List ℕ → ℕ → ℕ → List Term → Upsert
clause_for key tree base new = record { target = Some key; update = Some (changed tree base new) }

-- the key is the one of the table, and no index of its rowid
pub record IsKeyOf (t : Table) (key : List ℕ) : Type 0 where
  pub primary : t.primary ≡ key
  pub uniques : t.uniques ≡ key ∷ []
  pub apart : bytes_eq key (0 ∷ []) ≡ false
  pub own : bytes_eq key key ≡ true
  pub among : (length key == length key) && are_among key key && are_among key key ≡ true

module _ (schema : Schema) (t : Table) (stands : StandsInSchema schema t) (simple : IsSimple t) (key : List ℕ) (is_key : IsKeyOf t key) where
  abbrev its_tree : ℕ
  its_tree = tree_of schema t.name

  keyed : unique_keys schema its_tree ≡ (key, plain) ∷ []
  keyed = stands.keyed ∙ ap (map (λ places. (places, plain))) is_key.uniques

  accepted : (base : ℕ) (new : List Term) → are_typed [] (row_classes t ∷ []) new ≡ true → program schema [] (at_rowid base (drafted (Inner its_tree ∷ []) [] new)) ≡ Ok (changed its_tree base new)
  unfolding program
  accepted base new typed = rw (lt-leb (2 ^ 31) its_tree stands.stored, stands.has.found, typed) refl

  pub upsert_is : (text : List ℕ) (terms : List Term) (width base : ℕ) (new : List Term) → are_typed [] (row_classes t ∷ []) new ≡ true → IsUpsert schema t its_tree text terms width base new
      → Means schema text (InsertOr stands.at how.Abort (Values terms width) (clause_for key its_tree base new ∷ []))
  upsert_is text terms width base new typed (puts {p = p} {columns = columns} {rows = rows} {u = u} read is formats size given some_target target some_sets sets) =
      let its = table_in schema t in
      let unstamped : its.stamps.formats ≡ [] = ap (λ (v : Table). v.stamps.formats) simple in
      let meant = key_as schema p t.name columns rows u is formats stands.at its stands.has.named stands.has.stands unstamped key some_target (target ∙ ap Ok is_key.primary) (key_found schema its key keyed is_key.apart is_key.among) in
      let prog = update_as schema p t.name columns rows u is formats stands.at its stands.has.named stands.has.stands unstamped base (drafted (Inner its_tree ∷ []) [] new) (changed its_tree base new) some_sets (sets _) (accepted base new typed) in
      let ups = upserts_as schema p t.name columns rows u is formats stands.at its stands.has.named stands.has.stands unstamped base key (changed its_tree base new) some_target meant prog in
      let means = put_means schema p t.name columns rows u is formats stands.at its stands.has.named stands.has.stands unstamped text (Values terms width) (clause_for key its_tree base new ∷ []) read
      (subst (λ b. new_rows schema its b columns rows ≡ Ok (Values terms width)) (sym size) given) (subst (λ b. upserts schema stands.at its b (u ∷ []) ≡ Ok (clause_for key its_tree base new ∷ [])) (sym size) ups) in
      record { is = ap compiled_command means; plain = subst IsPlain (sym means) (refl, refl) }

-- ---- the statement as one edit

module _ (keys : Keys) (db after : Database) (table : Table) (params : Row) where
  -- the row is new, or it takes the place of the first that it meets
  abbrev pub Met : Row → ℕ → List Term → List Row → Type 0
  Met new base body [] = Applies db.schema keys db.trees (edit_of db.trees table [] Given 0 (new ∷ [])) after.trees
  Met new base body (there ∷ more) =
      (rows : List Row) × IsAnswer (from_table table.tree (met_at base ∷ []) body []) (overlay db.trees []) (params ++ rowid there ∷ laid table new) rows
      × Applies db.schema keys db.trees (edit_of db.trees table (ids_of rows) Given 1 rows) after.trees

  pub record Ends (new : Row) (key : List ℕ) (base : ℕ) (body : List Term) : Type 0 where
    pub found : List Row
    pub conflicting : AreConflicts (Some key) db.schema.indexes table (db.trees table.tree) new found
    pub met : Met new base body found

module _ (limit : Option ℕ) (mode : Mode) (db after : Database) (name : List ℕ) (at : ℕ) (u : Table) (has : HasTable db.schema name at (simplified u)) (unreferred : IsUnreferred db.schema u.tree) (params : Row) (text : List ℕ) (tally : Tally) where
  abbrev table : Table
  table = simplified u

  abbrev task : Task
  task = record { limit = limit; keys = mode.keys; schema = db.schema; table = table; params = params }

  module _ (new : Row) (key : List ℕ) (base : ℕ) (body : List Term) where
    abbrev clause : Upsert
    clause = clause_for key u.tree base body

    put_row_in : (w : Wrote) → after.trees ≡ w.trees → Puts task new db.trees (Ok w) → Met mode.keys db after table params new base body []
    put_row_in w next it =
        let e = went it in
        let edit = edit_of db.trees table [] Given 0 (new ∷ []) in
        let trees : w.trees ≡ e.0 = ap (λ (x : Wrote). x.trees) (same_ok e.2) in
        subst (Applies db.schema mode.keys db.trees edit) (sym (next ∙ trees)) (one_step db.schema mode.keys db.trees e.0 edit (works_none db.schema mode.keys 0 u.tree [] edit.news unreferred) e.1)

    cleared : (found : List Row) (w : Wrote) → after.trees ≡ w.trees → Clears task how.Abort new db.trees found (Ok w) → Met mode.keys db after table params new base body []
    cleared [] w next it = put_row_in w next it
    cleared (x ∷ more) w next it = put_row_in w next it

    resolved : (found : List Row) (w : Wrote) → after.trees ≡ w.trees → Meets task (Upserts task how.Abort new db.trees []) new db.trees clause found (Ok w) → Met mode.keys db after table params new base body found
    resolved [] w next it = cleared it.0 w next it.2
    resolved (there ∷ more) w next it =
        let q = went it in
        let e = went q.2 in
        let edit = edit_of db.trees table (ids_of q.0) Given 1 q.0 in
        let trees : w.trees ≡ e.0 = ap (λ (x : Wrote). x.trees) (same_ok e.2) in (
          q.0,
          q.1.answer Null,
          subst (Applies db.schema mode.keys db.trees edit) (sym (next ∙ trees)) (one_step db.schema mode.keys db.trees e.0 edit (works_none db.schema mode.keys 0 u.tree _ edit.news unreferred) e.1),
        )

    tried : (w : Wrote) → after.trees ≡ w.trees → Tries task how.Abort (clause ∷ []) new db.trees (Ok w) → Ends mode.keys db after table params new key base body
    tried w next (inl low) = absurd (let e = low.1 in cc)
    tried w next (inr (None, judged, it)) = record { found = it.0; conflicting = it.1; met = resolved it.0 w next it.2 }
    tried w next (inr (Some why, judged, it)) = absurd (let e = it in cc)

  pub ends : (terms : List Term) (width : ℕ) (source : Row) → value_rows params width (length terms / width) terms ≡ source ∷ [] → (key : List ℕ) (base : ℕ) (body : List Term)
      → Does limit mode params db text None (InsertOr at how.Abort (Values terms width) (clause_for key u.tree base body ∷ [])) (Ok (tally, after))
      → (after.schema ≡ db.schema) × Ends mode.keys db after table params (with_rowid Chosen (db.trees u.tree) (cast_row u source)) key base body
  ends terms width source one key base body does =
      let done = went (rw has.stands at does) in
      let now = ap (λ (p : Tally × Database). p.1) (same_ok (went (went done.2).2).2) in
      let given = went done.1 in
      let counter = went given.2 in
      let tries = went counter.2 in
      let counted = went tries.2 in
      let trees : done.0.trees ≡ tries.0.0.trees = ap (λ (it : Wrote). it.trees) (same_ok counted.2) ∙ same_ok counted.1 in
      let rows : given.0 ≡ source ∷ [] = given.1.1 ∙ ap (λ p. value_rows p width (length terms / width) terms) (append-nil params) ∙ one in
      let each = went (subst (λ rows. TriesEach task how.Abort (clause_for key u.tree base body ∷ []) rows (count_of counter.0) (nothing db.trees) (Ok tries.0)) rows tries.1) in
      let mid : tries.0.0.trees ≡ each.0.trees = ap (λ (z : Wrote × ℤ). z.0.trees) (same_ok each.2) in
      let next : after.trees ≡ each.0.trees = ap (λ (d : Database). d.trees) now ∙ trees ∙ mid in
      (ap (λ (d : Database). d.schema) now, tried (with_rowid Chosen (db.trees u.tree) (cast_row u source)) key base body each.0 next each.1)

-- ---- on records

-- what a text of this shape has to show of the record: the kinds of its values, what its key compares, and the row that it puts in the place of one with its key
pub record Fits (t : Table) {X : Type 0} (c : Coding X) (x : X) (key : List ℕ) (base : ℕ) (new : List Term) : Type 0 where
  pub kinds : AreOfKinds t.columns (c.encode x)
  pub agrees : (n m : ℤ) (y : X) → agree plain key (Int n ∷ c.encode y) key (Int m ∷ c.encode x) ≡ same_key c.key x y
  pub placed : (id : ℤ) (more : Row) → column (c.encode x ++ Int id ∷ more) base ≡ Int id
  pub shows : (n : ℤ) (more : Row) (y : X) → same_key c.key x y ≡ true → eval_all new ((c.encode x ++ more) ∷ (Int n ∷ c.encode y) ∷ []) ≡ Int n ∷ Int n ∷ c.encode x

module _ (limit : Option ℕ) (mode : Mode) (db after : Database) (t : Table) {X : Type 0} (c : Coding X) (keeps : KeepsTable t c db) (x : X) (text : List ℕ) (tally : Tally) (simple : IsSimple t) (key : List ℕ) (is_key : IsKeyOf t key) (base : ℕ) (new : List Term) where
  abbrev its : Table
  its = simplified (table_in db.schema t)

  abbrev tree : ℕ
  tree = tree_of db.schema t.name

  abbrev rows : List Row
  rows = db.trees tree

  module _ (back : (n : ℤ) → c.decode (Int n ∷ c.encode x) ≡ x) (fits : Fits t c x key base new) where
    keyed_db : unique_keys db.schema tree ≡ (key, plain) ∷ []
    keyed_db = keeps.stands.keyed ∙ ap (map (λ places. (places, plain))) is_key.uniques

    cells : (v : Value) → cast kind.Integer v ≡ v → cast_row its (v ∷ c.encode x) ≡ v ∷ c.encode x
    cells v e = ap₂ ◌∷◌ e (casts_same t.columns (c.encode x) fits.kinds)

    coded : (r : Row) → Has rows r → r ≡ Int (id_in (rowid r)) ∷ c.encode (c.decode r)
    coded r h = all_has (IsCoded c) rows r keeps.rows.coded h

    -- the statement meets the rows that have the key
    meets : (n : ℤ) (r : Row) → Has rows r → conflicts (Some key) db.schema.indexes its (Int n ∷ c.encode x) r ≡ same_key c.key x (c.decode r)
    meets n r h = conflict_is db.schema its key keyed_db is_key.apart is_key.own (Int n ∷ c.encode x) r ∙ ap (λ r. agree plain key r key (Int n ∷ c.encode x)) (coded r h) ∙ fits.agrees _ n (c.decode r)

    sees : (n : ℤ) (more : Row) (s : Row) → Has rows s → matching (met_at base ∷ []) (c.encode x ++ Int n ∷ more) s ≡ has_rowid n s
    sees n more s h =
        let id : rowid s ≡ Int (id_in (rowid s)) = ap rowid (coded s h) in
        and-true _ ∙ ap₂ (λ a b. is_true (binary (by.Compare compare.Eq Binary) a b)) id (fits.placed n more) ∙ equal_int (id_in (rowid s)) n ∙ ap (λ v. is_eq (value_cmp v (Int n))) (sym id)

    abbrev Made : Type 0
    Made = IsTableOf c (after.trees tree) × (records_in_rows c (after.trees tree) ≡ put c.key x (records_in_rows c rows)) × AllByRecursion (λ v. v.tree ≢ tree → after.trees v.tree ≡ db.trees v.tree) db.schema.tables

    by_edit : (n : ℤ) (gone : List ℤ) → without_all rows gone ≡ filter (λ r. not (same_key c.key x (c.decode r))) rows
        → Applies db.schema mode.keys db.trees (record { table = its; gone = gone; news = (Int n ∷ c.encode x) ∷ [] }) after.trees → Made
    by_edit n gone left applies = let both = replaced c its x n gone back db.schema mode.keys db.trees after.trees keeps.rows left applies in (both.0, both.1, applies.tables)

    is_new : (n : ℤ) → AllByRecursion (λ r. same_key c.key x (c.decode r) ≡ false) rows → Applies db.schema mode.keys db.trees (edit_of db.trees its [] Given 0 ((Int n ∷ c.encode x) ∷ [])) after.trees → Made
    is_new n free applies =
        by_edit n [] (sym (all_left (λ r. same_key c.key x (c.decode r)) rows free))
        (subst (λ r. Applies db.schema mode.keys db.trees (record { table = its; gone = []; news = r ∷ [] }) after.trees) (cells (Int n) (cast_int n)) applies)

    is_there : (r : Row) → Has rows r → same_key c.key x (c.decode r) ≡ true → (more : Row) (answer : List Row) → IsAnswer (from_table tree (met_at base ∷ []) new []) (overlay db.trees []) (c.encode x ++ rowid r ∷ more) answer
        → Applies db.schema mode.keys db.trees (edit_of db.trees its (ids_of answer) Given 1 answer) after.trees → Made
    is_there r h same more answer answers applies =
        let n = id_in (rowid r) in
        let is : r ≡ Int n ∷ c.encode (c.decode r) = coded r h in
        let id : rowid r ≡ Int n = ap rowid is in
        let given : Row = c.encode x ++ Int n ∷ more in
        let it = answered c (met_at base ∷ []) new [] tree given db.trees answer (subst (λ v. IsAnswer (from_table tree (met_at base ∷ []) new []) (overlay db.trees []) (c.encode x ++ v ∷ more) answer) id answers) in
        let has : has_rowid n r ≡ true = ap (λ v. is_eq (value_cmp v (Int n))) id ∙ ap is_eq (tied_itself value_cmp_total (Int n)) in
        let tests : filter (matching (met_at base ∷ []) given) rows ≡ r ∷ [] = filter_same_on _ _ rows (all_from _ rows (λ s k. sees n more s k)) ∙ one_left (has_rowid n) rows r (one_rowid c n rows keeps.rows) h has in
        let ordered = one_permutation _ it.0 (subst (λ l. IsPermutation (map (outp c (met_at base ∷ []) new [] tree given) l) it.0) tests it.1) in
        let answer_is : answer ≡ (Int n ∷ Int n ∷ c.encode x) ∷ [] = it.3 ∙ ap (map (λ (o : Output). o.1)) ordered ∙ ap (λ r. eval_all new (given ∷ r ∷ []) ∷ []) is ∙ ap (λ v. v ∷ []) (fits.shows n (Int n ∷ more) (c.decode r) same) in
        by_edit n (n ∷ []) (filter_alike (has_rowid n) (λ r. same_key c.key x (c.decode r)) rows (same_row c x n rows keeps.rows r h has same))
        (subst (λ r. Applies db.schema mode.keys db.trees (record { table = its; gone = n ∷ []; news = r ∷ [] }) after.trees) (cells (Int n) (cast_int n))
        (subst (λ l. Applies db.schema mode.keys db.trees (edit_of db.trees its (ids_of l) Given 1 l) after.trees) answer_is applies))

    by_found : (n : ℤ) (found : List Row) → AreConflicts (Some key) db.schema.indexes its rows (Int n ∷ c.encode x) found → Met mode.keys db after its (c.encode x) (Int n ∷ c.encode x) base new found → Made
    by_found n [] conf met = is_new n (all_from _ rows (λ r h. none r h (same_key c.key x (c.decode r)) refl)) met
      where
        none : (r : Row) → Has rows r → (b : Bool) → same_key c.key x (c.decode r) ≡ b → b ≡ false
        none r h true e = absurd (conf.complete r h (meets n r h ∙ e))
        none r h false e = refl
    by_found n (there ∷ more) conf met =
        let s = conf.sound there (inl refl) in
        is_there s.0 s.1 (sym (meets n s.0 s.1) ∙ s.2) (laid its (Int n ∷ c.encode x)) met.0
        (subst (λ v. IsAnswer (from_table tree (met_at base ∷ []) new []) (overlay db.trees []) (c.encode x ++ v ∷ laid its (Int n ∷ c.encode x)) met.0) (ap rowid s.3) met.1) met.2

    -- the record stands in its place, instead of one that has its key
    pub put_turns : (terms : List Term) (width : ℕ) → value_rows (c.encode x) width (length terms / width) terms ≡ (Null ∷ c.encode x) ∷ []
        → Does limit mode (c.encode x) db text None (InsertOr keeps.stands.at how.Abort (Values terms width) (clause_for key tree base new ∷ [])) (Ok (tally, after))
        → TurnsTable t c (put c.key x) db after
    put_turns terms width one does =
        let simple_its : IsSimple (table_in db.schema t) = ap (λ (v : Table). record v { tree = tree }) simple in
        let it = ends limit mode db after t.name keeps.stands.at (table_in db.schema t) (subst (HasTable db.schema t.name keeps.stands.at) simple_its keeps.stands.has) keeps.stands.unreferred (c.encode x) text tally terms width (Null ∷ c.encode x) one key base new does in
        let row : with_rowid Chosen rows (cast_row its (Null ∷ c.encode x)) ≡ Int (next_rowid rows) ∷ c.encode x = ap (with_rowid Chosen rows) (cells Null cast_null) in
        let e = subst (λ r. Ends mode.keys db after its (c.encode x) r key base new) row it.1 in
        let made = by_found (next_rowid rows) e.found e.conflicting e.met in
        turned t c _ db after keeps.stands it.0 (kept limit mode db after t c keeps (c.encode x) text tally after.trees made.2) made.0 made.1
