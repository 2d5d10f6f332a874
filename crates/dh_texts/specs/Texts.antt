-- The checked texts, by tests on their bytes.
use Rattle.std.specs.Prelude.{◌≡◌, ◌⊎◌, ℕ, Option, Some, None, ◌-◌, Bool, false, ◌&&◌, ◌||◌, not, ◌==◌, nat_le, nat_eq, if◌then◌else◌, List, length, drop, slice_index, codes, Result, Ok, Err, IsTrue}
use Rattle.std.specs.List.{list_all, slice_split, starts_with}
use Rattle.std.specs.Str.{bytes_eq}
use Rattle.dh_texts.specs.Bytes.{dash, dot, slash, underscore, tilde, delete}
use Rattle.dh_texts.specs.declared.lengths.TheConstants.{MOST_HOST_BYTES, MOST_LANG_BYTES, MOST_REF_BYTES, MOST_SLUG_BYTES, MOST_PATH_BYTES, MOST_TOKEN_BYTES}
use Rattle.dh_texts.specs.declared.fault.TextFault.{TextFault}
use Rattle.dh_texts.specs.declared.fault.TextFault.TheVariants.{Memory}

-- `a-z`
abbrev pub is_lower : ℕ → Bool
is_lower b = nat_le 97 b && nat_le b 122

-- `0-9`
abbrev pub is_digit : ℕ → Bool
is_digit b = nat_le 48 b && nat_le b 57

abbrev pub is_lower_or_digit : ℕ → Bool
is_lower_or_digit b = is_lower b || is_digit b

-- not 0x00 to 0x1F, and not 0x7F
abbrev pub is_no_control : ℕ → Bool
is_no_control b = nat_le 32 b && not (b == delete)

-- a text that has `low` to `high` bytes, each of which passes the test
abbrev pub is_within : ℕ → ℕ → (ℕ → Bool) → List ℕ → Bool
is_within low high test text = nat_le low (length text) && nat_le (length text) high && list_all test text

abbrev pub first_byte : List ℕ → ℕ
first_byte text = slice_index text 0

abbrev pub last_byte : List ℕ → ℕ
last_byte text = slice_index text (length text - 1)

-- `a-z 0-9 . -`
abbrev pub is_host_byte : ℕ → Bool
is_host_byte b = is_lower b || is_digit b || b == dot || b == dash

-- a host's name: 1 to 253 of `a-z 0-9 . -`, the first and the last a letter or digit
abbrev pub is_host_name : List ℕ → Bool
is_host_name text = is_within 1 MOST_HOST_BYTES is_host_byte text && is_lower_or_digit (first_byte text) && is_lower_or_digit (last_byte text)

-- `a-z 0-9 -`
abbrev pub is_lang_byte : ℕ → Bool
is_lang_byte b = is_lower b || is_digit b || b == dash

-- a language: 2 to 16 of `a-z 0-9 -`, the first a letter, the last not `-`; not `page`
abbrev pub is_lang : List ℕ → Bool
is_lang text = is_within 2 MOST_LANG_BYTES is_lang_byte text && is_lower (first_byte text) && not (last_byte text == dash) && not (bytes_eq text (codes "page"))

-- the name of a branch or a tag: 1 to 255 bytes, no control byte
abbrev pub is_ref_name : List ℕ → Bool
is_ref_name text = is_within 1 MOST_REF_BYTES is_no_control text

-- `a-z 0-9 . _ -`
abbrev pub is_slug_byte : ℕ → Bool
is_slug_byte b = is_lower b || is_digit b || b == dot || b == underscore || b == dash

-- a version's slug: 1 to 128 of `a-z 0-9 . _ -`, the first a letter or digit
abbrev pub is_slug : List ℕ → Bool
is_slug text = is_within 1 MOST_SLUG_BYTES is_slug_byte text && is_lower_or_digit (first_byte text)

-- not empty, not `.`, not `..`
abbrev pub is_segment : List ℕ → Bool
is_segment part = not (length part == 0) && not (bytes_eq part (codes ".")) && not (bytes_eq part (codes ".."))

-- what follows the front, where the text begins with it
abbrev pub rest_after : List ℕ → List ℕ → Option (List ℕ)
rest_after front text = if starts_with nat_eq text front then Some (drop (length front) text) else None

-- the parts of a path between its slashes
abbrev pub segments : List ℕ → List (List ℕ)
segments path = slice_split (λ b. b == slash) path

-- the path of a page in its version: 1 to 512 bytes, no control byte, each part between slashes a segment
abbrev pub is_page_path : List ℕ → Bool
is_page_path text = is_within 1 MOST_PATH_BYTES is_no_control text && list_all is_segment (segments text)

-- `A-Z a-z 0-9 - . _ ~`
abbrev pub is_token_byte : ℕ → Bool
is_token_byte b = (nat_le 65 b && nat_le b 90) || is_lower b || is_digit b || b == dash || b == dot || b == underscore || b == tilde

-- a pass or a key: 1 to 64 of `A-Z a-z 0-9 - . _ ~`
abbrev pub is_token : List ℕ → Bool
is_token text = is_within 1 MOST_TOKEN_BYTES is_token_byte text

-- a text that passes is answered as it is, or refused as out of memory; one that does not pass is refused by its kind
abbrev pub ParsesText : (List ℕ → Bool) → TextFault → List ℕ → Result (List ℕ) TextFault → Type 0
ParsesText test refusal text (Ok value) = (value ≡ text) × IsTrue (test text)
ParsesText test refusal text (Err fault) = ((fault ≡ refusal) × (test text ≡ false)) ⊎ ((fault ≡ Memory) × IsTrue (test text))

-- the defined value is answered, or out of memory; the refusal comes only where no value is defined
abbrev pub AnswersDefined : {A : Type 0} → Option A → TextFault → Result A TextFault → Type 0
AnswersDefined spec refusal (Ok value) = spec ≡ Some value
AnswersDefined spec refusal (Err fault) = ((fault ≡ refusal) × (spec ≡ None)) ⊎ (fault ≡ Memory)
