-- What one call of a port does.
use Rattle.std.specs.Prelude.{ℕ, ◌+◌, ◌-◌, ◌^◌, ◌<◌, ◌≤◌, min, Bool, true, ◌&&◌, Option, Some, None, Result, Ok, Err, List, length, take, ⊤, nat_eq, nat_lt}
use Rattle.std.specs.Io.KnownBytes.{Appends}

-- a put of a piece of this length was refused: the call failed, or took no byte of a piece that has some
abbrev pub put_stops : {E : Type 0} → Result ℕ E → ℕ → Bool
put_stops (Ok count) length = nat_eq count 0 && nat_lt 0 length
put_stops (Err fault) length = true

-- the first n bytes went out, and not all
abbrev pub PutsFirst : Option (List ℕ) → Option (List ℕ) → List ℕ → ℕ → Type 0
PutsFirst held now bytes n = (n < length bytes) × Appends held now (take n bytes)

-- at most this many more calls were counted, where calls are counted
abbrev pub CountsUpTo : Option ℕ → Option ℕ → ℕ → Type 0
CountsUpTo None new most = ⊤
CountsUpTo (Some count) None most = ⊥
CountsUpTo (Some count) (Some more) most = more ≤ count + most

-- at least this many more calls were counted, where calls are counted; a count stays at 2^64 - 1
abbrev pub CountsAtLeast : Option ℕ → Option ℕ → ℕ → Type 0
CountsAtLeast None new least = ⊤
CountsAtLeast (Some count) None least = ⊥
CountsAtLeast (Some count) (Some more) least = min (count + least) (2 ^ 64 - 1) ≤ more
