-- What the statements on notes ask and do, wherever their table stands.
use Rattle.std.proofs.Common.{◌≡◌, ℕ, ℤ, pos, List, [], ◌∷◌, map, filter, not, codes, false, Some, refl, ◌∙◌}
use Rattle.std.proofs.Math.Bool.{and-true}
use Rattle.sqlite_value.specs.declared.value.Value.TheVariants.{Null, Int, Text}
use Rattle.sqlite_value.specs.Order.{Row}
use Rattle.sqlite_value.specs.Keys.{first_key}
use Rattle.std.proofs.lemmas.Bool.{and_parts}
use Rattle.sqlite_sql.specs.Term.{Term, lit, col}
use Rattle.sqlite_schema.specs.declared.schema.Schema.{Schema}
use Rattle.sqlite_tied.specs.Compute.{everything}
use Rattle.sqlite.specs.State.{State}
use Rattle.sqlite.specs.Effect.{IsDatabase}
use Rattle.dh_rows.specs.Calls.{AreRows}
use Rattle.dh_rows.specs.Keyed.{IsTableOf, IsFreeKey, added, put}
use Rattle.dh_rows.specs.Places.{IsFree, IsUnmentioned, ArePlaced, StandsInSchema, KeepsTable, rows_of, records_of}
use Rattle.dh_rows.specs.Whole.{SpellsRecords}
use Rattle.sqlite.specs.Does.{lacks_sequence}
use Rattle.dh_rows.specs.Example.{Note, note_table, notes, is_of, is_note}
use Rattle.dh_rows.proofs.Effects.{IsSimple}
use Rattle.dh_rows.proofs.Texts.{ArePlain}
use Rattle.dh_rows.proofs.Read.{parameters_in, delete_of, select_of, insert_of}
use Rattle.dh_rows.proofs.Equal.{equal_text, equal_int, tied_is, alike_text, alike_int}
use Rattle.dh_rows.proofs.Create.{IsCreate, makes, Creates, creates}
use Rattle.dh_rows.proofs.Asks.{WritesTable, AnswersWith, delete, insert, upsert, select}
use Rattle.dh_rows.proofs.Upsert.{IsUpsert, puts, IsKeyOf, Fits}
use Rattle.dh_rows.proofs.Whole.{AreTextsOf, IsCodingOf, SuitsSelect, asks_ids, asks_all, spelled, spells}

-- ---- once for the table

note_simple : IsSimple note_table
note_simple = refl

note_plain : ArePlain note_table.columns
note_plain = ((refl, refl), ((refl, refl), ((refl, refl), tt)))

note_back : (x : Note) (n : ℤ) → notes.decode (Int n ∷ notes.encode x) ≡ x
note_back x n = refl

-- ---- DELETE

abbrev drop_text : List ℕ
drop_text = codes "DELETE FROM note WHERE name = ?1 AND place = ?2"

drop_read : delete_of note_table drop_text ≡ Some ((0, 0) ∷ (1, 1) ∷ [])
unfolding everything
drop_read = refl

-- ---- SELECT

abbrev list_text : List ℕ
list_text = codes "SELECT name, place, text FROM note WHERE name = ?1 ORDER BY name, place"

list_read : select_of note_table list_text ≡ Some (0 ∷ 1 ∷ 2 ∷ [], (0, 0) ∷ [], 0 ∷ 1 ∷ [])
unfolding everything
list_read = refl

-- ---- INSERT

abbrev add_text : List ℕ
add_text = codes "INSERT INTO note VALUES (?1, ?2, ?3)"

add_read : (schema : Schema) (tree : ℕ) → insert_of schema (record note_table { tree = tree }) add_text ≡ Some (lit Null ∷ col 0 0 ∷ col 0 1 ∷ col 0 2 ∷ [], 4)
unfolding everything
add_read schema tree = refl

list_count : parameters_in list_text ≡ Some 1
unfolding everything
list_count = refl

module _ (s : State) (keeps : KeepsTable note_table notes s.now) where
  pub drops : (name : List ℕ) (place : ℕ) → WritesTable s drop_text (Text name ∷ Int (pos place) ∷ []) note_table notes (filter (λ x. not (is_note name place x)))
  drops name place = delete note_table note_simple note_plain notes s keeps drop_text _ drop_read _ (is_note name place) (λ n x. rw (equal_text x.name name, equal_int (pos x.place) (pos place), and-true) refl)

  abbrev pub shown : Note → Row
  shown x = Text x.name ∷ Int (pos x.place) ∷ Text x.text ∷ []

  pub lists : (name : List ℕ) → AnswersWith s list_text (Text name ∷ []) (map shown (filter (is_of name) (records_of notes note_table.name s.now)))
  lists name = select note_table note_simple note_plain notes s keeps list_text _ _ _ list_read _ list_count refl (is_of name) shown (λ n x. rw (equal_text x.name name, and-true) refl) (λ n x. refl) (λ x y. refl)

  pub adds : (x : Note) → IsFreeKey notes.key x (records_of notes note_table.name s.now) → WritesTable s add_text (notes.encode x) note_table notes (added notes.key x)
  adds x free = insert note_table note_simple note_plain notes s keeps add_text _ _ (add_read _ _) x (note_back x) (tt, (tt, (tt, tt))) refl free

-- ---- INSERT .. ON CONFLICT

note_key : IsKeyOf note_table (1 ∷ 2 ∷ [])
note_key = record { primary = refl; uniques = refl; apart = refl; own = refl; among = refl }

abbrev put_text : List ℕ
put_text = codes "INSERT INTO note VALUES (?1, ?2, ?3) ON CONFLICT (name, place) DO UPDATE SET text = ?3"

abbrev put_new : List Term
put_new = col 1 0 ∷ col 1 0 ∷ col 1 1 ∷ col 1 2 ∷ col 0 2 ∷ []

put_read : (schema : Schema) (tree : ℕ) → IsUpsert schema note_table tree put_text (lit Null ∷ col 0 0 ∷ col 0 1 ∷ col 0 2 ∷ []) 4 3 put_new
unfolding everything
put_read schema tree = puts refl refl refl refl refl refl refl refl (λ cx. refl)

put_fits : (x : Note) → Fits note_table notes x (1 ∷ 2 ∷ []) 3 put_new
unfolding first_key
put_fits x = record {
  kinds = (tt, (tt, (tt, tt)));
  agrees = λ n m y. rw (equal_text y.name x.name, equal_int (pos y.place) (pos x.place)) (tied_is (notes.key x) (notes.key y));
  placed = λ id more. refl;
  shows = λ n more y same.
      let parts = and_parts _ _ (tied_is (notes.key x) (notes.key y) ∙ same) in
      rw (alike_text y.name x.name parts.0, alike_int (pos y.place) (pos x.place) (and_parts _ _ parts.1).0) refl;
}

pub puts_note : (s : State) → KeepsTable note_table notes s.now → (x : Note) → WritesTable s put_text (notes.encode x) note_table notes (put notes.key x)
puts_note s keeps x = upsert note_table note_simple note_plain notes s keeps (1 ∷ 2 ∷ []) note_key put_text _ 4 3 put_new put_read refl x (note_back x) (put_fits x) refl

-- ---- CREATE TABLE

abbrev create_text : List ℕ
create_text = codes "CREATE TABLE note (name TEXT NOT NULL, place INTEGER NOT NULL, text TEXT NOT NULL, PRIMARY KEY (name, place)) STRICT"

create_read : IsCreate create_text note_table
unfolding everything
create_read = makes refl refl refl refl refl refl refl refl

pub made : (s : State) → IsFree s.now.schema note_table.name → IsUnmentioned s.now.schema note_table.name → lacks_sequence s.now.schema ≡ false → ArePlaced s.now.schema → Creates s create_text note_table
made s free unmentioned counted fine = creates note_table create_text create_read refl refl (refl, tt) s free unmentioned counted fine

-- ---- all rows

abbrev ids_text : List ℕ
ids_text = codes "SELECT rowid FROM note ORDER BY rowid"

abbrev all_text : List ℕ
all_text = codes "SELECT name, place, text FROM note ORDER BY name, place"

note_texts : AreTextsOf note_table ids_text all_text (0 ∷ 1 ∷ [])
unfolding everything
note_texts = record { simple = refl; plain = note_plain; ids_read = refl; all_read = refl }

note_coding : IsCodingOf note_table notes (0 ∷ 1 ∷ [])
note_coding = record { back = note_back; wide = λ x. refl; full = λ x. refl; keys = λ x. refl; sorts = λ x y. refl }

module _ (s : State) (stands : StandsInSchema s.now.schema note_table) where
  pub asks_note_ids : SuitsSelect s ids_text
  asks_note_ids = asks_ids note_texts s stands

  pub asks_notes : SuitsSelect s all_text
  asks_notes = asks_all note_texts s stands

  -- where the answers spell notes, the table is ours and has these
  pub are_notes : IsDatabase s.now → (ids rows : List Row) (xs : List Note) → AreRows s ids_text [] ids → AreRows s all_text [] rows → SpellsRecords notes ids rows xs
      → IsTableOf notes (rows_of s.now note_table.name) × (records_of notes note_table.name s.now ≡ xs)
  are_notes = spelled note_texts s stands note_coding

  -- and where it is, they do
  pub notes_are : (ids rows : List Row) → AreRows s ids_text [] ids → AreRows s all_text [] rows → IsTableOf notes (rows_of s.now note_table.name) → SpellsRecords notes ids rows (records_of notes note_table.name s.now)
  notes_are = spells note_texts s stands note_coding
