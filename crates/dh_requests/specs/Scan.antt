-- The search for the end of a head, byte by byte.
use Rattle.std.specs.Prelude.{◌≡◌, ℕ, ◌+◌, ◌≤◌, Bool, true, false, List, [], ◌∷◌, ◌++◌, length, Option, Some, None, if◌then◌else◌, ◌==◌}
use Rattle.std.specs.Option.{option_map}
use Rattle.dh_requests.specs.declared.head_end.Place.{Place}
use Rattle.dh_requests.specs.declared.head_end.Place.TheVariants.{Start, Return, Inside}
use Rattle.dh_requests.specs.declared.head_end.Scan.{Scan}
use Rattle.dh_requests.specs.HeadEnd.{HeadSize}

-- the place behind a byte that ends no line
abbrev pub place_after : Place → ℕ → Place
place_after Start b = if b == 13 then Return else Inside
place_after Return b = Inside
place_after Inside b = Inside

-- a line that ends at this place is empty
abbrev pub ends_empty : Place → Bool
ends_empty Start = true
ends_empty Return = true
ends_empty Inside = false

-- the search behind the LF of a line, unless the head ends there
abbrev pub after_line : Scan → Option Scan
after_line scan =
    if ends_empty scan.place
    then (if scan.lines == 0 then Some (record { lines = 0; place = Start }) else None)
    else Some (record { lines = scan.lines + 1; place = Start })

-- the search behind a byte, unless the head ends there
abbrev pub after_byte : Scan → ℕ → Option Scan
after_byte scan b =
    if b == 10 then after_line scan
    else Some (record { lines = scan.lines; place = place_after scan.place b })

-- the size with this many more bytes in front
abbrev pub size_behind : ℕ → HeadSize → HeadSize
size_behind n size = record { bytes = size.bytes + n; lines = size.lines }

-- the byte ends the head, or is one more in front of the size that the rest gives
abbrev pub ended_or : Option Scan → ℕ → (Scan → Option HeadSize) → Option HeadSize
ended_or None lines rest = Some (record { bytes = 1; lines = lines })
ended_or (Some scan) lines rest = option_map (size_behind 1) (rest scan)

-- how many bytes it is from here to the end of the head, and how many lines the head then has
abbrev pub end_from : Scan → List ℕ → Option HeadSize
end_from scan [] = None
end_from scan (b ∷ bytes) = ended_or (after_byte scan b) scan.lines (λ s. end_from s bytes)

-- the search before any byte
abbrev pub at_first : Scan
at_first = record { lines = 0; place = Start }

-- behind these n bytes the search stands at `now`: whatever follows, the end of the head is found from there
abbrev pub ScansTo : Scan → List ℕ → ℕ → Scan → Type 0
ScansTo first bytes n now =
    (more : List ℕ) → end_from first (bytes ++ more)
    ≡ option_map (size_behind n) (end_from now more)

-- the head ends behind the n-th of the bytes, with the lines that the search counted
abbrev pub FindsEnd : Scan → List ℕ → Scan → ℕ → Type 0
FindsEnd first bytes now n =
    (n ≤ length bytes) × (end_from first bytes ≡ Some (record { bytes = n; lines = now.lines }))
