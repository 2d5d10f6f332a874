-- What two plain queries show of a whole table that may not be ours: that it is, and its records.
use Rattle.std.proofs.Common.{◌≡◌, ℕ, suc, ◌+◌, ℤ, pos, ◌≤◌, List, [], ◌∷◌, map, filter, length, drop, true, false, not, Option, Some, IsSome, refl, sym, ap, ap₂, subst, ◌∙◌, arith, true≢false, is_eq, IsPermutation, Ordering, Less}
use Rattle.std.specs.List.{AllByRecursion, list_all}
use Rattle.std.proofs.lemmas.Bool.{and_parts}
use Rattle.std.proofs.lemmas.Cmp.{on_total}
use Rattle.std.proofs.lemmas.List.Sorted.{IsPermutation-map, IsPermutation-sym, IsPermutation-trans}
use Rattle.sqlite_value.specs.declared.value.Value.{Value}
use Rattle.sqlite_value.specs.declared.value.Value.TheVariants.{Null, Int}
use Rattle.sqlite_value.specs.declared.keys.Key.{Key}
use Rattle.sqlite_value.specs.Order.{Row, column, value_cmp}
use Rattle.sqlite_value.proofs.OrderLemmas.{then-Equal}
use Rattle.sqlite_trees.specs.Tree.{Trees, rowid, IsAscending}
use Rattle.sqlite_sql.specs.Ops.{is_null}
use Rattle.sqlite_sql.specs.Term.{Term, col, eval_all}
use Rattle.sqlite_sql.specs.Query.{Query, IsAnswer, Output, key_cmp, output_cmp}
use Rattle.sqlite_sql.specs.Program.{overlay}
use Rattle.sqlite_sql.proofs.QueryLemmas.{output_cmp_total}
use Rattle.sqlite_schema.specs.declared.schema.Column.{Column as Declared}
use Rattle.sqlite_schema.specs.declared.schema.Table.{Table}
use Rattle.sqlite_schema.specs.declared.schema.Constraint.TheVariants.{Datatype}
use Rattle.sqlite_schema.specs.declared.command.Command.TheVariants.{Select}
use Rattle.sqlite_schema.specs.Rules.{are_typed}
use Rattle.sqlite_rules.specs.Edit.{id_in}
use Rattle.sqlite_keyed.specs.Lists.{sort_by}
use Rattle.sqlite_keyed.proofs.ListLemmas.{map-map, map_back, all_map, all_unmap, all_weaker, all-map, all-slice_get, filter_all, all_of as each_of, ascending-map, ascending_from_map, ascending_weaker}
use Rattle.sqlite_keyed.proofs.SortLemmas.{IsPermutation-sort_by, sorted_is-sort_by, sort_by-map}
use Rattle.sqlite.specs.Effect.{IsDatabase, Reads}
use Rattle.sqlite.specs.State.{State}
use Rattle.dh_rows.specs.Calls.{IsPlainLook, IsUnfit, AreRows}
use Rattle.dh_rows.specs.Keyed.{Coding, IsCoded, IsTableOf, by_key, records_in_rows}
use Rattle.dh_rows.specs.Places.{tree_of, table_in, StandsInSchema, rows_of}
use Rattle.dh_rows.specs.Whole.{IsRowid, SpellsRecords}
use Rattle.dh_rows.proofs.Terms.{rising, by_rowid, from_table, columns_at}
use Rattle.dh_rows.proofs.Lists.{rises-sort, one_order, ties_moved, all_moved, by_key_total, id_total}
use Rattle.dh_rows.proofs.Shapes.{matching, outp, query, answered}
use Rattle.dh_rows.proofs.Effects.{IsSimple, select_reads}
use Rattle.dh_rows.proofs.Texts.{ArePlain, Chooses, IsSelect, rowid_name, name_at, select_is, select_accepts, ids_is, ids_accepts}
use Rattle.dh_rows.proofs.Read.{ids_of, is_ids, all_of, is_all, places}
use Rattle.dh_rows.proofs.Asks.{fitting}

-- What is read once of a table and the texts of its two queries, without parameters: of all rowids, and of all columns in the order of some.
pub record AreTextsOf (t : Table) (ids all : List ℕ) (order : List ℕ) : Type 0 where
  pub simple : IsSimple t
  pub plain : ArePlain t.columns
  pub ids_read : ids_of t ids ≡ Some tt
  pub all_read : all_of t all ≡ Some order

-- Each record is kept in the columns of the table, none of them NULL, and read back. To sort by these columns is to sort by the key.
pub record IsCodingOf (t : Table) {X : Type 0} (c : Coding X) (order : List ℕ) : Type 0 where
  pub back : (x : X) (n : ℤ) → c.decode (Int n ∷ c.encode x) ≡ x
  pub wide : (x : X) → length (c.encode x) ≡ length t.columns
  pub full : (x : X) → list_all (λ v. not (is_null v)) (c.encode x) ≡ true
  pub keys : (x : X) → map (column (c.encode x)) order ≡ c.key x
  pub sorts : (x y : X) → key_cmp 0 (map (λ (k : Term × Key). k.1) (map rising order)) (c.key x) (c.key y) ≡ by_key c.key x y

-- What `select` asks of a text. Only a limit on steps refuses it.
pub record SuitsSelect (s : State) (text : List ℕ) : Type 0 where
  pub look : IsPlainLook s text
  pub fits : IsUnfit s text [] → IsSome s.step_limit

-- ---- rows and their columns

-- as many values as there are columns, NULL past the end
abbrev padded : List Declared → Row → Row
padded [] vs = []
padded (c ∷ cs) [] = Null ∷ padded cs []
padded (c ∷ cs) (v ∷ vs) = v ∷ padded cs vs

-- the columns of a row after its first value
after : (v : Value) (vs : Row) (ks : List ℕ) → map (column (v ∷ vs)) (map suc ks) ≡ map (column vs) ks
after v vs [] = refl
after v vs (k ∷ ks) = ap (λ l. column vs k ∷ l) (after v vs ks)

past : (ks : List ℕ) → map (column []) (map suc ks) ≡ map (column []) ks
past [] = refl
past (k ∷ ks) = ap (λ l. Null ∷ l) (past ks)

in_places : (cs : List Declared) (vs : Row) → map (column vs) (places cs) ≡ padded cs vs
in_places [] vs = refl
in_places (c ∷ cs) [] = ap (λ l. Null ∷ l) (past (places cs) ∙ in_places cs [])
in_places (c ∷ cs) (v ∷ vs) = ap (λ l. v ∷ l) (after v vs (places cs) ∙ in_places cs vs)

evaluated : (v : Value) (vs : Row) (ks : List ℕ) → eval_all (columns_at ks) ([] ∷ (v ∷ vs) ∷ []) ≡ map (column vs) ks
evaluated v vs [] = refl
evaluated v vs (k ∷ ks) = ap (λ l. column vs k ∷ l) (evaluated v vs ks)

sorted_on : (v : Value) (vs : Row) (ks : List ℕ) → eval_all (map (λ (k : Term × Key). k.0) (map rising ks)) ([] ∷ (v ∷ vs) ∷ []) ≡ map (column vs) ks
sorted_on v vs [] = refl
sorted_on v vs (k ∷ ks) = ap (λ l. column vs k ∷ l) (sorted_on v vs ks)

padded_same : (cs : List Declared) (vs : Row) → length vs ≡ length cs → padded cs vs ≡ vs
padded_same [] [] e = refl
padded_same [] (v ∷ vs) e = absurd (omega arith)
padded_same (c ∷ cs) [] e = absurd (omega arith)
padded_same (c ∷ cs) (v ∷ vs) e = ap (λ l. v ∷ l) (padded_same cs vs (omega arith))

-- no longer than its columns are, and with none of them NULL, it has just those
unpadded : (cs : List Declared) (vs es : Row) → length vs ≤ length cs → list_all (λ v. not (is_null v)) es ≡ true → padded cs vs ≡ es → vs ≡ es
unpadded [] [] es short full e = e
unpadded [] (v ∷ vs) es short full e = absurd (omega arith)
unpadded (c ∷ cs) [] es short full e = absurd (true≢false (sym full ∙ ap (list_all (λ v. not (is_null v))) (sym e)))
unpadded (c ∷ cs) (v ∷ vs) [] short full e = absurd (cc)
unpadded (c ∷ cs) (v ∷ vs) (w ∷ ws) short full e =
    let first : v ≡ w = cc in
    let rest : padded cs vs ≡ ws = cc in
    ap₂ ◌∷◌ first (unpadded cs vs ws (omega arith) (and_parts _ _ full).1 rest)

typed_short : (key : Option ℕ) (at : ℕ) (cs : List Declared) (vs : Row) → are_typed key at cs vs ≡ true → length vs ≤ length cs
typed_short key at [] [] h = omega arith
typed_short key at [] (v ∷ vs) h = absurd (true≢false (sym h))
typed_short key at (c ∷ cs) [] h = omega arith
typed_short key at (c ∷ cs) (v ∷ vs) h = longer (typed_short key (at + 1) cs vs (and_parts _ _ h).1)
  where
    longer : length vs ≤ length cs → length (v ∷ vs) ≤ length (c ∷ cs)
    longer short = omega arith

-- ---- what a query of all rows answers

module _ {X : Type 0} (c : Coding X) (shown : List Term) (order : List (Term × Key)) (tree : ℕ) where
  abbrev show : Row → Row
  show r = eval_all shown ([] ∷ r ∷ [])

  whole : (rows : List Row) → filter (matching [] []) rows ≡ rows
  whole rows = filter_all (matching [] []) rows (each_of (λ r. true ≡ true) (λ r. refl) rows)

  -- the answer is an order of what the rows show
  moved : (db : Trees) (rows : List Row) → IsAnswer (query c [] shown order tree []) (overlay db []) [] rows → IsPermutation (map show (db tree)) rows
  moved db rows a =
      let it = answered c [] shown order tree [] db rows a in
      let from : map (λ (o : Output). o.1) (map (outp c [] shown order tree []) (filter (matching [] []) (db tree))) ≡ map show (db tree) = map-map (λ (o : Output). o.1) (outp c [] shown order tree []) _ ∙ ap (map show) (whole (db tree)) in
      subst (IsPermutation (map show (db tree))) (sym it.3) (subst (λ l. IsPermutation l (map (λ (o : Output). o.1) it.0)) from (IsPermutation-map (λ (o : Output). o.1) _ _ it.1))

-- the query that a text is, answered
answer_of : (s : State) (text : List ℕ) (q : Query) {names : List (List ℕ)} → Chooses s.now.schema text (Select (record { lets = []; body = q }) names) → (rows : List Row) → AreRows s text [] rows → IsAnswer q (overlay s.now.trees []) [] rows
answer_of s text q {names = names} it rows h = let found : Reads (Select (record { lets = []; body = q }) names) s.now [] rows = subst (λ k. Reads k s.now [] rows) it.means.is h in found.answer Null

-- ---- a table of which only its place is known

module _ {t : Table} {ids_text all_text order : List ℕ} (texts : AreTextsOf t ids_text all_text order) (s : State) (stands : StandsInSchema s.now.schema t) where
  abbrev tree : ℕ
  tree = tree_of s.now.schema t.name

  abbrev stored : List Row
  stored = s.now.trees tree

  abbrev columns : List Term
  columns = columns_at (places t.columns)

  ids_means : Chooses s.now.schema ids_text (Select (record { lets = []; body = from_table tree [] (col 1 0 ∷ []) (by_rowid ∷ []) }) (rowid_name ∷ []))
  ids_means = ids_is s.now.schema t stands texts.simple texts.plain ids_text (is_ids t ids_text texts.ids_read).1

  all_shape : IsSelect t all_text (places t.columns) [] order
  all_shape = (is_all t all_text order texts.all_read).1

  all_means : Chooses s.now.schema all_text (Select (record { lets = []; body = from_table tree [] columns (map rising order) }) (map (name_at t) (places t.columns)))
  all_means = select_is s.now.schema t stands texts.simple texts.plain all_text (places t.columns) [] order all_shape

  pub asks_ids : SuitsSelect s ids_text
  asks_ids = record {
    look = record { plain = ids_means.means.plain; listing = ids_means.listing };
    fits = fitting s ids_text [] ids_means (is_ids t ids_text texts.ids_read).0 (ids_accepts s.now.schema t stands texts.simple texts.plain);
  }

  pub asks_all : SuitsSelect s all_text
  asks_all = record {
    look = record { plain = all_means.means.plain; listing = all_means.listing };
    fits = fitting s all_text [] all_means (is_all t all_text order texts.all_read).0 (select_accepts s.now.schema t stands texts.simple texts.plain all_text (places t.columns) [] order all_shape [] refl);
  }

  -- no row is longer than the table
  typed : IsDatabase s.now → AllByRecursion (λ r. are_typed t.key 0 t.columns (drop 1 r) ≡ true) stored
  typed sound = all_weaker _ _ (λ r h. (and_parts _ _ h).0) stored (all-slice_get _ s.now.schema.tables stands.at (table_in s.now.schema t) stands.has.stands (sound.obeys.rules Datatype))

  module _ {X : Type 0} {c : Coding X} (coding : IsCodingOf t c order) where
    -- the columns of a row
    abbrev shows : Row → Row
    shows = show c columns (map rising order) tree

    ids_moved : (ids : List Row) → AreRows s ids_text [] ids → IsPermutation (map (λ r. rowid r ∷ []) stored) ids
    ids_moved ids h = moved c (col 1 0 ∷ []) (by_rowid ∷ []) tree s.now.trees ids (answer_of s ids_text _ ids_means ids h)

    rows_moved : (rows : List Row) → AreRows s all_text [] rows → IsPermutation (map shows stored) rows
    rows_moved rows h = moved c columns (map rising order) tree s.now.trees rows (answer_of s all_text _ all_means rows h)

    -- ---- from the answers to the table

    record IsRead (r : Row) : Type 0 where
      id : ℤ
      it : X
      row : r ≡ Int id ∷ c.encode it
      shown : shows r ≡ c.encode it

    read_row : (r : Row) → IsRowid (rowid r ∷ []) → are_typed t.key 0 t.columns (drop 1 r) ≡ true → (x : X) → shows r ≡ c.encode x → IsRead r
    read_row [] (n, e) typed x shown = absurd (cc)
    read_row (v ∷ vs) (n, e) typed x shown =
        let id : v ≡ Int n = cc in
        let rest = unpadded t.columns vs (c.encode x) (typed_short t.key 0 t.columns vs typed) (coding.full x) (sym (in_places t.columns vs) ∙ sym (evaluated v vs (places t.columns)) ∙ shown) in
        record { id = n; it = x; row = ap₂ ◌∷◌ id rest; shown = shown }

    read_rows : (rows : List Row) → AllByRecursion (λ r. IsRowid (rowid r ∷ [])) rows → AllByRecursion (λ r. are_typed t.key 0 t.columns (drop 1 r) ≡ true) rows → AllByRecursion (λ r. (x : X) × (shows r ≡ c.encode x)) rows → AllByRecursion IsRead rows
    read_rows [] ints typed seen = tt
    read_rows (r ∷ rs) ints typed seen = (read_row r ints.0 typed.0 seen.0.0 seen.0.1, read_rows rs ints.1 typed.1 seen.1)

    coded : (r : Row) → IsRead r → IsCoded c r
    coded r read = subst (IsCoded c) (sym read.row) (ap (λ y. Int read.id ∷ c.encode y) (sym (coding.back read.it read.id)))

    abbrev decode_after : Row → X
    decode_after v = c.decode (Int (pos 0) ∷ v)

    decoded : (rows : List Row) → AllByRecursion IsRead rows → map decode_after (map shows rows) ≡ map c.decode rows
    decoded [] all = refl
    decoded (r ∷ rs) all =
        let it = all.0 in
        ap₂ ◌∷◌ (ap decode_after it.shown ∙ coding.back it.it (pos 0) ∙ sym (ap c.decode it.row ∙ coding.back it.it it.id)) (decoded rs all.1)

    -- Answers that spell records are of a table of ours, and these are its records.
    pub spelled : IsDatabase s.now → (ids rows : List Row) (xs : List X) → AreRows s ids_text [] ids → AreRows s all_text [] rows → SpellsRecords c ids rows xs
        → IsTableOf c (rows_of s.now t.name) × (records_in_rows c (rows_of s.now t.name) ≡ xs)
    spelled sound ids rows xs ids_are rows_are spells =
        let by_id = IsPermutation-sym _ _ (ids_moved ids ids_are) in
        let by_row : IsPermutation (map shows stored) (map c.encode xs) = subst (IsPermutation (map shows stored)) spells.rows_are (rows_moved rows rows_are) in
        let ints = all_unmap IsRowid (λ r. rowid r ∷ []) stored (all_moved IsRowid ids _ by_id spells.ids_are.ints) in
        let seen = all_unmap (λ v. (x : X) × (v ≡ c.encode x)) shows stored (all_moved (λ v. (x : X) × (v ≡ c.encode x)) _ _ (IsPermutation-sym _ _ by_row) (all-map (λ v. (x : X) × (v ≡ c.encode x)) c.encode (λ x. (x, refl)) xs)) in
        let read = read_rows stored ints (typed sound) seen in
        let same : IsPermutation (map c.decode stored) xs =
        subst (λ l. IsPermutation l xs) (decoded stored read) (subst (IsPermutation (map decode_after (map shows stored))) (map_back c.encode decode_after (λ x. coding.back x (pos 0)) xs) (IsPermutation-map decode_after _ _ by_row)) in
        let loose : IsAscending (λ a b. is_eq (value_cmp (rowid a) (rowid b)) ≡ false) ids = ascending_weaker _ _ (λ a b h. ap is_eq h) ids spells.ids_are.rise in
        let keyed = ties_moved (by_key c.key) (by_key_total c.key) xs (map c.decode stored) (IsPermutation-sym _ _ same) (ascending_weaker _ _ (λ a b h. ap is_eq h) xs spells.rise) in (
          record {
            coded = all_weaker IsRead (IsCoded c) coded stored read;
            apart = ascending_from_map (λ a b. is_eq (value_cmp (rowid a) (rowid b)) ≡ false) (λ r. rowid r ∷ []) stored (ties_moved _ id_total ids _ by_id loose);
            keyed = keyed;
          },
          one_order (by_key c.key) (by_key_total c.key) xs _ spells.rise (rises-sort (by_key c.key) (by_key_total c.key) (map c.decode stored) keyed)
              (IsPermutation-trans _ _ _ (IsPermutation-sym _ _ same) (IsPermutation-sym _ _ (IsPermutation-sort_by (by_key c.key) (by_key_total c.key) (map c.decode stored)))),
        )

    -- ---- from the table to the answers

    abbrev id_output : Row → Output
    id_output = outp c [] (col 1 0 ∷ []) (by_rowid ∷ []) tree []

    abbrev id_cmp : Row → Row → Ordering
    id_cmp a b = output_cmp (query c [] (col 1 0 ∷ []) (by_rowid ∷ []) tree []) (id_output a) (id_output b)

    -- the rowids, in their order
    ids_rise : (ids : List Row) → AreRows s ids_text [] ids → IsAscending (λ a b. is_eq (value_cmp (rowid a) (rowid b)) ≡ false) stored → IsAscending (λ a b. value_cmp (rowid a) (rowid b) ≡ Less) ids
    ids_rise ids h apart =
        let q = query c [] (col 1 0 ∷ []) (by_rowid ∷ []) tree [] in
        let it = answered c [] (col 1 0 ∷ []) (by_rowid ∷ []) tree [] s.now.trees ids (answer_of s ids_text _ ids_means ids h) in
        let loose : IsAscending (λ a b. is_eq (id_cmp a b) ≡ false) stored = ascending_weaker _ _ (λ a b h. ap is_eq (then-Equal (value_cmp (rowid a) (rowid b))) ∙ h) stored apart in
        let same : IsPermutation (map id_output stored) it.0 = subst (λ l. IsPermutation (map id_output l) it.0) (whole c (col 1 0 ∷ []) (by_rowid ∷ []) tree stored) it.1 in
        let one = sorted_is-sort_by (output_cmp q) (output_cmp_total q) (map id_output stored) it.0 (ascending-map (λ o p. is_eq (output_cmp q o p) ≡ false) id_output stored loose) same it.2 in
        let are : ids ≡ map (λ r. rowid r ∷ []) (sort_by id_cmp stored) = it.3 ∙ ap (map (λ (o : Output). o.1)) (one ∙ sort_by-map (output_cmp q) id_output stored) ∙ map-map (λ (o : Output). o.1) id_output _ in
        let up : IsAscending (λ a b. value_cmp (rowid a) (rowid b) ≡ Less) (sort_by id_cmp stored) =
        ascending_weaker _ _ (λ a b h. sym (then-Equal (value_cmp (rowid a) (rowid b))) ∙ h) _ (rises-sort id_cmp (on_total id_output (output_cmp_total q)) stored loose) in
        subst (IsAscending (λ a b. value_cmp (rowid a) (rowid b) ≡ Less)) (sym are) (ascending-map (λ a b. value_cmp (rowid a) (rowid b) ≡ Less) (λ r. rowid r ∷ []) _ up)

    -- The answers of a table of ours spell its records.
    pub spells : (ids rows : List Row) → AreRows s ids_text [] ids → AreRows s all_text [] rows → IsTableOf c (rows_of s.now t.name) → SpellsRecords c ids rows (records_in_rows c (rows_of s.now t.name))
    spells ids rows ids_are rows_are was = record {
      ids_are = record {
        ints = all_moved IsRowid _ ids (ids_moved ids ids_are) (all_map IsRowid (λ r. rowid r ∷ []) stored (all_weaker (IsCoded c) _ (λ r h. (id_in (rowid r), ap (λ z. rowid z ∷ []) h)) stored was.coded));
        rise = ids_rise ids ids_are was.apart;
      };
      rows_are = select_reads s.now t c (record { stands = stands; rows = was }) [] [] columns (map rising order) (map (name_at t) (places t.columns)) (λ x. true) c.encode (λ n x. refl) output_is coding.sorts rows (subst (λ k. Reads k s.now [] rows) all_means.means.is rows_are)
          ∙ ap (map c.encode) (filter_all (λ x. true) _ (each_of (λ x. true ≡ true) (λ x. refl) _));
      rise = rises-sort (by_key c.key) (by_key_total c.key) (map c.decode stored) was.keyed;
    }
      where
        output_is : (n : ℤ) (x : X) → outp c [] columns (map rising order) tree [] (Int n ∷ c.encode x) ≡ (c.key x, c.encode x)
        output_is n x =
            ap₂ (λ (a : Row) (b : Row). (a, b)) (sorted_on (Int n) (c.encode x) order ∙ coding.keys x)
            (evaluated (Int n) (c.encode x) (places t.columns) ∙ in_places t.columns (c.encode x) ∙ padded_same t.columns (c.encode x) (coding.wide x))
