-- What a statement on a table of ours asks and does, from its text alone: one lemma for each shape.
use Rattle.std.proofs.Common.{◌≡◌, inl, inr, ℕ, ℤ, List, [], ◌∷◌, ◌≤◌, length, map, filter, not, Bool, true, None, Some, IsSome, Ok, ◌/◌, sym, ap, subst, ◌∙◌, true≢false}
use Rattle.sqlite_value.specs.declared.value.Value.TheVariants.{Null, Int}
use Rattle.sqlite_value.specs.declared.keys.Key.{Key}
use Rattle.sqlite_value.specs.Order.{Row}
use Rattle.sqlite_sql.specs.Term.{Term, col}
use Rattle.sqlite_sql.specs.Query.{key_cmp}
use Rattle.sqlite_schema.specs.declared.schema.Table.{Table}
use Rattle.sqlite_schema.specs.declared.schema.Schema.{Schema}
use Rattle.sqlite_typing.specs.Types.{row_classes, are_typed, accepts_program}
use Rattle.sqlite_schema.specs.declared.command.Command.TheVariants.{Delete, Select}
use Rattle.sqlite_syntax.specs.declared.statement.Parsed.{Parsed}
use Rattle.sqlite.specs.Effect.{Database, Reads, RefusesToRead, value_rows}
use Rattle.sqlite.specs.Given.{IsPlain}
use Rattle.sqlite.specs.Listing.{understood}
use Rattle.sqlite.specs.Does.{Does}
use Rattle.sqlite.specs.State.{State, mode_of}
use Rattle.dh_rows.specs.Calls.{compiled_command, statement_of, IsEdit, IsPlainEdit, IsPlainLook, IsUnfit, EditsTo}
use Rattle.dh_rows.proofs.Calls.{tail_of, parameters_of}
use Rattle.dh_rows.specs.Keyed.{Coding, by_key, IsFreeKey, added, put}
use Rattle.dh_rows.specs.Places.{tree_of, table_in, KeepsTable, records_of}
use Rattle.dh_rows.proofs.Terms.{wanted, wanted_above, rising, from_table, columns_at}
use Rattle.dh_rows.proofs.Shapes.{matching, outp}
use Rattle.dh_rows.proofs.Effects.{IsSimple, AreOfKinds, TurnsTable, delete_turns, insert_turns, select_reads}
use Rattle.dh_rows.proofs.Texts.{ArePlain, Chooses, Means, all_suit, name_at, delete_is, delete_above_is, select_is, select_accepts, insert_is}
use Rattle.dh_rows.proofs.Upsert.{IsUpsert, IsKeyOf, Fits, upsert_is, put_turns}
use Rattle.dh_rows.proofs.Read.{delete_of, is_delete, delete_above_of, is_delete_above, select_of, is_select, parameters_in, CountsParameters, are_counted, insert_of, is_insert}

-- what `change` asks of a text, and what it then does to one table
pub record WritesTable (s : State) (text : List ℕ) (params : Row) (t : Table) {X : Type 0} (c : Coding X) (change : List X → List X) : Type 0 where
  pub edit : IsPlainEdit s text
  pub turns : (after : Database) → EditsTo s text params after → TurnsTable t c change s.now after

-- what `select` asks of a text, and what it then answers
pub record AnswersWith (s : State) (text : List ℕ) (params : Row) (answer : List Row) : Type 0 where
  pub look : IsPlainLook s text
  pub reads : (rows : List Row) → Reads (compiled_command (understood s.now.schema text)) s.now params rows → rows ≡ answer
  -- only a limit on steps refuses it
  pub fits : IsUnfit s text params → IsSome s.step_limit

-- A query of one table that takes its parameters is refused for a limit on steps alone.
pub fitting : (s : State) (text : List ℕ) (params : Row) {tree : ℕ} {terms shown : List Term} {order : List (Term × Key)} {names : List (List ℕ)} → Chooses s.now.schema text (Select (record { lets = []; body = from_table tree terms shown order }) names)
    → CountsParameters text (length params) → accepts_program s.now.schema [] (from_table tree terms shown order) params ≡ true → IsUnfit s text params → IsSome s.step_limit
fitting s text params {tree = tree} it counts accepts (e, inl wrong) = absurd (elim wrong [
  | inl unread ↦ subst IsPlain unread.1 it.means.plain
  | inr read ↦ elim read.2 [
    | inl past ↦ past.0 (subst (λ r. length text ≤ tail_of r) read.1 (subst (λ n. length text ≤ n) (sym it.tail) whole))
    | inr more ↦ elim more [
      | inl given ↦ given.0 (sym count ∙ ap parameters_of read.1)
      | inr timed ↦ timed.0 (subst IsPlain read.1 it.means.plain).1
    ]
  ]
])
  where
    same : counts.parsed ≡ it.parsed
    same = let both : Ok counts.parsed ≡ Ok it.parsed = sym counts.read ∙ it.read in cc

    whole : length text ≤ it.parsed.tail
    whole = subst (λ (p : Parsed). length text ≤ p.tail) same counts.whole

    count : parameters_of (understood s.now.schema text) ≡ length params
    count = it.given ∙ ap (λ (p : Parsed). length p.names) (sym same) ∙ counts.given
fitting s text params {tree = tree} it counts accepts (e, inr refuses) = elim (subst (λ k. RefusesToRead s.step_limit k s.now params e) it.means.is refuses) [
  | inl typed ↦ absurd (true≢false (sym accepts ∙ typed.1))
  | inr more ↦ elim more [
    | inl over ↦ absurd (elim over.1 [ inl none ↦ none | inr folds ↦ folds.4 ])
    | inr limit ↦ limit.1
  ]
]

module _ (t : Table) (simple : IsSimple t) (plain : ArePlain t.columns) {X : Type 0} (c : Coding X) (s : State) (keeps : KeepsTable t c s.now) where
  deletes_by : (text : List ℕ) (terms : List Term) → Means s.now.schema text (Delete keeps.stands.at (record { lets = []; body = from_table (tree_of s.now.schema t.name) terms (col 1 0 ∷ []) [] })) → (params : Row) (test : X → Bool) → ((n : ℤ) (x : X) → matching terms params (Int n ∷ c.encode x) ≡ test x)
      → WritesTable s text params t c (filter (λ x. not (test x)))
  deletes_by text terms means params test sees =
      record {
        edit = record { plain = means.plain; edits = subst IsEdit (sym means.is) tt };
        turns = λ after it. delete_turns s.step_limit (mode_of s) s.now after t c keeps params (statement_of text (understood s.now.schema text)) it.0 terms test sees (subst (λ k. Does s.step_limit (mode_of s) params s.now (statement_of text (understood s.now.schema text)) None k (Ok (it.0, after))) means.is it.1);
      }

  -- DELETE FROM t WHERE ..
  pub delete : (text : List ℕ) (ws : List (ℕ × ℕ)) → delete_of t text ≡ Some ws → (params : Row) (test : X → Bool) → ((n : ℤ) (x : X) → matching (wanted ws) params (Int n ∷ c.encode x) ≡ test x)
      → WritesTable s text params t c (filter (λ x. not (test x)))
  delete text ws read = deletes_by text (wanted ws) (delete_is s.now.schema t keeps.stands simple plain text ws (is_delete t text ws read))

  -- DELETE FROM t WHERE .. AND column > ?n
  pub delete_above : (text : List ℕ) (ws : List (ℕ × ℕ)) (w : ℕ × ℕ) → delete_above_of t text ≡ Some (ws, w) → (params : Row) (test : X → Bool) → ((n : ℤ) (x : X) → matching (wanted_above ws w) params (Int n ∷ c.encode x) ≡ test x)
      → WritesTable s text params t c (filter (λ x. not (test x)))
  delete_above text ws w read = deletes_by text (wanted_above ws w) (delete_above_is s.now.schema t keeps.stands simple plain text ws w (is_delete_above t text ws w read))

  -- INSERT INTO t VALUES (..), whose parameters are the columns of the record
  pub insert : (text : List ℕ) (terms : List Term) (width : ℕ) → insert_of s.now.schema (table_in s.now.schema t) text ≡ Some (terms, width) → (x : X) → ((n : ℤ) → c.decode (Int n ∷ c.encode x) ≡ x) → AreOfKinds t.columns (c.encode x)
      → value_rows (c.encode x) width (length terms / width) terms ≡ (Null ∷ c.encode x) ∷ [] → IsFreeKey c.key x (records_of c t.name s.now)
      → WritesTable s text (c.encode x) t c (added c.key x)
  insert text terms width read x back kinds one free =
      let means = insert_is s.now.schema t keeps.stands simple plain text terms width (is_insert s.now.schema t (tree_of s.now.schema t.name) text terms width read) in
      record {
        edit = record { plain = means.plain; edits = subst IsEdit (sym means.is) tt };
        turns = λ after it. insert_turns s.step_limit (mode_of s) s.now after t c keeps (c.encode x) (statement_of text (understood s.now.schema text)) it.0 simple x terms width back kinds one free (subst (λ k. Does s.step_limit (mode_of s) (c.encode x) s.now (statement_of text (understood s.now.schema text)) None k (Ok (it.0, after))) means.is it.1);
      }

  -- INSERT INTO t VALUES (..) ON CONFLICT (the key) DO UPDATE SET .., whose parameters are the columns of the record
  pub upsert : (key : List ℕ) → IsKeyOf t key → (text : List ℕ) (terms : List Term) (width base : ℕ) (new : List Term) → ((schema : Schema) (tree : ℕ) → IsUpsert schema t tree text terms width base new) → are_typed [] (row_classes t ∷ []) new ≡ true
      → (x : X) → ((n : ℤ) → c.decode (Int n ∷ c.encode x) ≡ x) → Fits t c x key base new → value_rows (c.encode x) width (length terms / width) terms ≡ (Null ∷ c.encode x) ∷ []
      → WritesTable s text (c.encode x) t c (put c.key x)
  upsert key is_key text terms width base new read typed x back fits one =
      let means = upsert_is s.now.schema t keeps.stands simple key is_key text terms width base new typed (read s.now.schema (tree_of s.now.schema t.name)) in
      record {
        edit = record { plain = means.plain; edits = subst IsEdit (sym means.is) tt };
        turns = λ after it. put_turns s.step_limit (mode_of s) s.now after t c keeps x (statement_of text (understood s.now.schema text)) it.0 simple key is_key base new back fits terms width one (subst (λ k. Does s.step_limit (mode_of s) (c.encode x) s.now (statement_of text (understood s.now.schema text)) None k (Ok (it.0, after))) means.is it.1);
      }

  -- SELECT .. FROM t WHERE .. ORDER BY the whole key
  pub select : (text : List ℕ) (ks : List ℕ) (ws : List (ℕ × ℕ)) (os : List ℕ) → select_of t text ≡ Some (ks, ws, os) → (params : Row) → parameters_in text ≡ Some (length params) → all_suit t params ws ≡ true
      → (test : X → Bool) (show : X → Row)
      → ((n : ℤ) (x : X) → matching (wanted ws) params (Int n ∷ c.encode x) ≡ test x)
      → ((n : ℤ) (x : X) → outp c (wanted ws) (columns_at ks) (map rising os) (tree_of s.now.schema t.name) params (Int n ∷ c.encode x) ≡ (c.key x, show x))
      → ((x y : X) → key_cmp 0 (map (λ (k : Term × Key). k.1) (map rising os)) (c.key x) (c.key y) ≡ by_key c.key x y)
      → AnswersWith s text params (map show (filter test (records_of c t.name s.now)))
  select text ks ws os read params count suits test show sees shows sorts =
      let shape = is_select t text ks ws os read in
      let it = select_is s.now.schema t keeps.stands simple plain text ks ws os shape in
      record {
        look = record { plain = it.means.plain; listing = it.listing };
        reads = λ rows found. select_reads s.now t c keeps params (wanted ws) (columns_at ks) (map rising os) (map (name_at t) ks) test show sees shows sorts rows (subst (λ k. Reads k s.now params rows) it.means.is found);
        fits = fitting s text params it (are_counted text (length params) count) (select_accepts s.now.schema t keeps.stands simple plain text ks ws os shape params suits);
      }
