-- What reading takes from a source.
use Rattle.std.specs.Prelude.{◌≡◌, ℕ, ◌≤◌, ◌<◌, Bool, true, false, List, [], ◌++◌, length, Option, Result, Ok, Err}
use Rattle.std.specs.Io.KnownBytes.{Consumes, IsAtEnd}
use Rattle.dh_ports.specs.declared.stop.Stop.{Stop}
use Rattle.dh_ports.specs.declared.stop.Stop.TheVariants.{Read, TooManyTurns, Memory}
use Rattle.dh_ports.specs.declared.intake.TheConstants.{MOST_READS, READ_SIZE}

-- the reader failed
abbrev pub reader_failed : {A : Type 0} → Result A Stop → Bool
reader_failed (Ok value) = false
reader_failed (Err Read) = true
reader_failed (Err TooManyTurns) = false
reader_failed (Err Memory) = false

-- the source gave at most this many bytes, where it tells its bytes
abbrev pub TookAtMost : Option (List ℕ) → Option (List ℕ) → ℕ → Type 0
TookAtMost old new most = (bytes : List ℕ) × Consumes old new bytes × (length bytes ≤ most)

-- some bytes came, or the source is at its end
abbrev pub CameOrEnded : Option (List ℕ) → List ℕ → Bool → Type 0
CameOrEnded left bytes true = 0 < length bytes
CameOrEnded left bytes false = (bytes ≡ []) × IsAtEnd left

-- the bytes that the source gave, at most 4,096, were put behind those that were there; `came` says whether there were any
abbrev pub AddsSome : Option (List ℕ) → Option (List ℕ) → List ℕ → List ℕ → Bool → Type 0
AddsSome old new before after came =
    (bytes : List ℕ)
    × Consumes old new bytes
    × (after ≡ before ++ bytes)
    × CameOrEnded new bytes came
    × (length bytes ≤ READ_SIZE)

-- the most bytes that the source gave to a read that stopped
abbrev pub most_lost : Stop → ℕ
most_lost Read = 0
most_lost TooManyTurns = 0
most_lost Memory = READ_SIZE

-- one read: the bytes that came are put behind those that were there; a read that stopped leaves these as they were
abbrev pub AddsOneRead
    : Option (List ℕ) → Option (List ℕ) → List ℕ → List ℕ → Result Bool Stop → Type 0
AddsOneRead old new before after (Ok came) = AddsSome old new before after came
AddsOneRead old new before after (Err stop) = (after ≡ before) × TookAtMost old new (most_lost stop)

-- all 100,000 reads were made, and each of them brought a byte at least
pub record IsFull (reads : ℕ) (bytes : List ℕ) : Type 0 where
  pub reads_made : reads ≡ MOST_READS
  pub bytes_came : MOST_READS ≤ length bytes
