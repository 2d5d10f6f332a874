-- The slug of a version, from the name of its branch or tag (Read the Docs, "Versions").
use Rattle.std.specs.Prelude.{ℕ, ◌+◌, ◌&&◌, nat_le, if◌then◌else◌, Option, Some, None, List, [], ◌∷◌, ◌++◌, map}
use Rattle.std.specs.Str.{chars}
use Rattle.dh_texts.specs.Bytes.{dash}
use Rattle.dh_texts.specs.Texts.{is_slug_byte, is_lower_or_digit, is_slug}

-- capitals are lowered, and what a slug cannot hold becomes `-`
abbrev pub slug_char : ℕ → ℕ
slug_char c = if nat_le 65 c && nat_le c 90 then c + 32 else if is_slug_byte c then c else dash

-- the text from its first letter or digit on
abbrev pub from_letter : List ℕ → List ℕ
from_letter [] = []
from_letter (c ∷ cs) = if is_lower_or_digit c then c ∷ cs else from_letter cs

-- the text so far with one more byte, which begins it only if it is a letter or digit
abbrev pub with_byte : List ℕ → ℕ → List ℕ
with_byte [] b = if is_lower_or_digit b then b ∷ [] else []
with_byte (c ∷ cs) b = c ∷ cs ++ b ∷ []

-- the text of a name's slug, made character by character, not byte by byte
abbrev pub slug_text : List ℕ → List ℕ
slug_text name = from_letter (map slug_char (chars name))

-- the slug of a name; none where no letter or digit is left, or more than 128 bytes
abbrev pub slug_from : List ℕ → Option (List ℕ)
slug_from name = if is_slug (slug_text name) then Some (slug_text name) else None
