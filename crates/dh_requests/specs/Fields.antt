-- The field lines of a head (RFC 9112, section 5).
use Rattle.std.specs.Prelude.{ℕ, Bool, List, [], ◌∷◌, map, filter, Option, Some, None}
use Rattle.std.specs.Str.{str_eq_ignore_ascii_case}
use Rattle.dh_requests.specs.declared.fields.Lines.{Lines}
use Rattle.dh_requests.specs.declared.fields.Lines.TheVariants.{Absent, One, Many}

-- a field's name, and its value without the white space around it
abbrev pub NameAndValue : Type 0
NameAndValue = List ℕ × List ℕ

-- the field has this name, ignoring case
abbrev pub is_named : List ℕ → NameAndValue → Bool
is_named name field = str_eq_ignore_ascii_case field.0 name

-- the values of the fields of a name, in order
abbrev pub values_named : List ℕ → List NameAndValue → List (List ℕ)
values_named name fields = map (λ field. field.1) (filter (is_named name) fields)

-- the value of a line that may stand once: `Some None` where no such line stands, `None` where two or more do
abbrev pub at_most_one : List (List ℕ) → Option (Option (List ℕ))
at_most_one [] = Some None
at_most_one (value ∷ []) = Some (Some value)
at_most_one (value ∷ other ∷ values) = None

-- the value of the lines that were found, if one was; undefined where many were
abbrev pub one_of : Lines → Option (Option (List ℕ))
one_of Absent = Some None
one_of (One value) = Some (Some value.now)
one_of Many = None

-- the value after one more line was found
abbrev pub one_more : Option (Option (List ℕ)) → List ℕ → Option (Option (List ℕ))
one_more (Some None) value = Some (Some value)
one_more (Some (Some other)) value = None
one_more None value = None
