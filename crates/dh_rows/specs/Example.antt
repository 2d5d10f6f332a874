-- An example: notes, by a name and a place.
use Rattle.std.specs.Prelude.{ℕ, pos, List, [], ◌∷◌, codes, Bool, ◌&&◌}
use Rattle.sqlite_value.specs.declared.value.Value.{Value}
use Rattle.sqlite_value.specs.declared.value.Value.TheVariants.{Int, Text}
use Rattle.sqlite_value.specs.Order.{column, bytes}
use Rattle.sqlite_schema.specs.declared.schema.Kind.TheVariants as kind
use Rattle.sqlite_schema.specs.declared.schema.Table.{Table}
use Rattle.dh_rows.specs.Keyed.{Coding, same_value}
use Rattle.dh_rows.specs.Places.{needed, keyed_table}

pub record Note : Type 0 where
  pub name : List ℕ
  pub place : ℕ
  pub text : List ℕ

abbrev pub number_of : Value → ℕ
number_of (Int (pos n)) = n
number_of _ = 0

abbrev pub note_table : Table
note_table = keyed_table (codes "note") (1 ∷ 2 ∷ []) (needed kind.Text (codes "name") ∷ needed kind.Integer (codes "place") ∷ needed kind.Text (codes "text") ∷ [])

abbrev pub notes : Coding Note
notes = record {
  encode = λ x. Text x.name ∷ Int (pos x.place) ∷ Text x.text ∷ [];
  decode = λ r. record { name = bytes (column r 1); place = number_of (column r 2); text = bytes (column r 3) };
  key = λ x. Text x.name ∷ Int (pos x.place) ∷ [];
}

-- the note has this name, and this place
abbrev pub is_of : List ℕ → Note → Bool
is_of name x = same_value (Text x.name) (Text name)

abbrev pub is_note : List ℕ → ℕ → Note → Bool
is_note name place x = same_value (Text x.name) (Text name) && same_value (Int (pos x.place)) (Int (pos place))
