-- What reading a request takes from a source.
use Rattle.std.specs.Prelude.{◌≡◌, ℕ, ◌+◌, ◌≤◌, ◌<◌, Bool, true, false, List, ◌++◌, length, Option, Result, Ok, Err, IsErrOf, if◌then◌else◌}
use Rattle.std.specs.Io.KnownBytes.{Consumes, IsAtEnd}
use Rattle.dh_ports.specs.Ports.{CountsUpTo, CountsAtLeast}
use Rattle.dh_ports.specs.Reading.{reader_failed, TookAtMost, CameOrEnded}
use Rattle.dh_ports.specs.declared.source.Source.{Ghosts}
use Rattle.dh_ports.specs.declared.stop.Stop.{Stop}
use Rattle.dh_ports.specs.declared.stop.Stop.TheVariants.{Read, TooManyTurns, Memory}
use Rattle.dh_ports.specs.declared.intake.TheConstants.{READ_SIZE}

-- at least this many bytes were taken, where the source tells its bytes
abbrev pub TookAtLeast : Option (List ℕ) → Option (List ℕ) → ℕ → Type 0
TookAtLeast old new least = (bytes : List ℕ) × Consumes old new bytes × (least ≤ length bytes)

-- the bytes that were taken are a part of which `Needs` holds, and then at most this many
abbrev pub TookWhile :
    (List ℕ → Type 0) → Option (List ℕ) → Option (List ℕ) → ℕ → Type 0
TookWhile Needs old new most =
    (part : List ℕ)
    × (last : List ℕ)
    × Needs part
    × Consumes old new (part ++ last)
    × (length last ≤ most)

-- there are `count` bytes, or fewer, and then the source is at its end
abbrev pub FilledOrEnded : Option (List ℕ) → ℕ → ℕ → Bool → Type 0
FilledOrEnded left len count true = count ≤ len
FilledOrEnded left len count false = (len < count) × IsAtEnd left

-- the bytes that the source gave were put behind those that were there
abbrev pub AddsBytes : Option (List ℕ) → Option (List ℕ) → List ℕ → List ℕ → Type 0
AddsBytes old new before after =
    (bytes : List ℕ) × Consumes old new bytes × (after ≡ before ++ bytes)

-- the bytes that the source gave were put behind those that were there, until there were `count` or the source ended
abbrev pub AddsUpTo :
    Option (List ℕ) → Option (List ℕ) → List ℕ → List ℕ → ℕ → Bool → Type 0
AddsUpTo old new before after count whole =
    AddsBytes old new before after × FilledOrEnded new (length after) count whole

-- where fewer than `count` bytes were there, the bytes that were taken are a part that leaves some missing,
-- and then at most this many
abbrev pub FillsUpTo : ℕ → ℕ → Option (List ℕ) → Option (List ℕ) → ℕ → Type 0
FillsUpTo len count old new most =
    len < count → TookWhile (λ part. len + length part < count) old new most

-- the bytes that the source gave, fewer than 4,096 more than are missing, were put behind those that were
-- there; `came` says whether there were any
abbrev pub AddsNear :
    ℕ → Option (List ℕ) → Option (List ℕ) → List ℕ → List ℕ → Bool → Type 0
AddsNear missing old new before after came =
    (bytes : List ℕ)
    × Consumes old new bytes
    × (after ≡ before ++ bytes)
    × CameOrEnded new bytes came
    × (length bytes < missing + READ_SIZE)

-- the most bytes that the source gave to a read that stopped, where this many were missing
abbrev pub most_missed : ℕ → Stop → ℕ
most_missed missing Read = 0
most_missed missing TooManyTurns = 0
most_missed missing Memory = missing + 4095

-- one read of a body that lacks this many bytes; where the read stopped, the bytes that were there
-- stay, and no others came
abbrev pub AddsPiece :
    ℕ → Option (List ℕ) → Option (List ℕ) → List ℕ → List ℕ → Result Bool Stop → Type 0
AddsPiece missing old new before after (Ok came) = AddsNear missing old new before after came
AddsPiece missing old new before after (Err stop) =
    (after ≡ before) × TookAtMost old new (most_missed missing stop)

-- What a call takes from a source, whatever it answers.
module _ {S T : Type 0} (g : Ghosts S) (old new : S) (result : Result T Stop) where
  -- The call makes at most this many reads, and takes no more than it needs.
  pub record TakesNeeded
      (Needs : Option (List ℕ) → Option (List ℕ) → ℕ → Type 0) (bytes times : ℕ) : Type 0 where
    -- no more came than is needed, and then 4,096 bytes at most: none where the reader failed
    pub needed : Needs (g.left old) (g.left new) (if reader_failed result then 0 else READ_SIZE)
    -- the source is broken exactly where the reader failed
    pub broken : g.broken new ≡ reader_failed result
    -- the call stops for too many turns only where this many bytes came, and all of these reads were made
    pub turns : IsErrOf result TooManyTurns → TookAtLeast (g.left old) (g.left new) bytes
    pub full : IsErrOf result TooManyTurns → CountsAtLeast (g.fills old) (g.fills new) times
    pub reads : CountsUpTo (g.fills old) (g.fills new) times
