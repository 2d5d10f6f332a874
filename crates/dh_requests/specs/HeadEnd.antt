-- Where the head of a request ends (RFC 9112, section 2): empty lines, the request line, the field lines, and an empty line.
use Rattle.std.specs.Prelude.{◌≡◌, ℕ, ◌+◌, ◌≤◌, ◌<◌, Bool, true, false, List, [], ◌∷◌, length, take, Option, Some, None, if◌then◌else◌, ◌==◌, nat_le}
use Rattle.std.specs.Option.{option_map}
use Rattle.dh_requests.specs.declared.head_end.HeadEnd.{HeadEnd}
use Rattle.dh_requests.specs.declared.head_end.HeadEnd.TheVariants.{At, TooLarge, CutShort}
use Rattle.dh_ports.specs.declared.intake.TheConstants.{MOST_READS}
use Rattle.dh_requests.specs.declared.head_end.TheConstants.{MOST_HEAD_BYTES, MOST_HEAD_LINES}

-- puts the byte in front of the first line, where there is a line
abbrev pub onto_first : ℕ → List (List ℕ) → List (List ℕ)
onto_first b [] = []
onto_first b (line ∷ lines) = (b ∷ line) ∷ lines

-- the lines of a text without the LF that ends each; what follows the last LF is no line
abbrev pub lines_of : List ℕ → List (List ℕ)
lines_of [] = []
lines_of (b ∷ text) = if b == 10 then [] ∷ lines_of text else onto_first b (lines_of text)

-- nothing, or a CR alone
abbrev pub is_empty_line : List ℕ → Bool
is_empty_line [] = true
is_empty_line (b ∷ []) = b == 13
is_empty_line (a ∷ b ∷ line) = false

-- how large a head is: its bytes, and its lines that are not empty
pub record HeadSize : Type 0 where
  pub bytes : ℕ
  pub lines : ℕ

-- the size with one more line in front, which counts as a line or not
abbrev pub with_line : List ℕ → ℕ → HeadSize → HeadSize
with_line line count size =
    record { bytes = length line + 1 + size.bytes; lines = count + size.lines }

-- the size up to and with the first empty line
abbrev pub size_to_empty : List (List ℕ) → Option HeadSize
size_to_empty [] = None
size_to_empty (line ∷ lines) =
    if is_empty_line line then Some (record { bytes = length line + 1; lines = 0 })
    else option_map (with_line line 1) (size_to_empty lines)

-- the size up to and with the first empty line behind a line that is not empty
abbrev pub head_size : List (List ℕ) → Option HeadSize
head_size [] = None
head_size (line ∷ lines) =
    if is_empty_line line then option_map (with_line line 0) (head_size lines)
    else size_to_empty (line ∷ lines)

-- a head of at most 65 lines, the request line and 64 more, ends there; a head without an end is too large at 16,384 bytes
abbrev pub head_end_in : Option HeadSize → ℕ → HeadEnd
head_end_in (Some size) len = if nat_le size.lines MOST_HEAD_LINES then At size.bytes else TooLarge
head_end_in None len = if nat_le MOST_HEAD_BYTES len then TooLarge else CutShort

-- where the head of the input ends, of which the first 16,384 bytes are looked at
abbrev pub head_end_of : List ℕ → HeadEnd
head_end_of input = head_end_in (head_size (lines_of (take MOST_HEAD_BYTES input))) (length input)

-- the text is a head by its lines, and no more: at most 65 of them are not empty
abbrev pub IsHeadText : List ℕ → Type 0
IsHeadText text =
    (lines : ℕ)
    × (lines ≤ MOST_HEAD_LINES)
    × (head_size (lines_of text) ≡ Some (record { bytes = length text; lines = lines }))

-- the bytes up to the end are the text of a head
abbrev pub EndsHead : HeadEnd → List ℕ → Type 0
EndsHead (At n) bytes = (n ≤ length bytes) × IsHeadText (take n bytes)
EndsHead TooLarge bytes = Unit {0}
EndsHead CutShort bytes = Unit {0}

-- the most reads that were made up to this end of a head, of which `reads` brought bytes: where the head
-- ends, each read did
abbrev pub most_spent : HeadEnd → ℕ → ℕ
most_spent (At n) reads = reads
most_spent TooLarge reads = MOST_READS
most_spent CutShort reads = MOST_READS

-- the head of an input that begins with these bytes is not whole yet, and not too large
pub record OpenHead (bytes : List ℕ) : Type 0 where
  pub open_head : head_size (lines_of bytes) ≡ None
  pub room : length bytes < MOST_HEAD_BYTES
