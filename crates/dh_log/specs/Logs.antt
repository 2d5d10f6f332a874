-- What a log writes, and how it counts the lines that were lost.
use Rattle.std.specs.Prelude.{◌≡◌, ◌⊎◌, ℕ, ◌+◌, ◌-◌, ◌^◌, min, Bool, true, false, ◌||◌, List, [], ◌++◌, length, Option, codes, nat_eq, nat_lt, if◌then◌else◌}
use Rattle.std.specs.Io.KnownBytes.{Appends}
use Rattle.std.specs.List.{FoldsTo}
use Rattle.dh_ports.specs.Ports.{PutsFirst}
use Rattle.dh_log.specs.Lines.{line_of, lost_line}
use Rattle.dh_log.specs.declared.entry.Entry.{Entry}
use Rattle.dh_log.specs.declared.log.Log.{Log}
use Rattle.dh_log.specs.declared.log.Missed.{Missed}

-- what stands in front of a line: the end of one that was written in part, and the line that tells how many were lost
abbrev pub missed_text : Bool → Missed → ℕ → List ℕ
missed_text has_levels missed moment =
    (if missed.is_torn then codes "\n" else [])
    ++ (if nat_eq missed.lost 0 then [] else lost_line has_levels moment missed.lost)

abbrev pub told_text : Bool → Missed → Entry → List ℕ
told_text has_levels missed entry =
    missed_text has_levels missed entry.measured.moment ++ line_of has_levels entry

-- nothing was missed since the last line that was written whole
abbrev pub none_missed : Missed
none_missed = record { lost = 0; is_torn = false }

-- one more line was lost, of which this many bytes were written
abbrev pub one_more_missed : Missed → ℕ → Missed
one_more_missed missed n =
    record { lost = min (missed.lost + 1) (2 ^ 64 - 1); is_torn = missed.is_torn || nat_lt 0 n }

-- the text was written whole, and nothing is missed now; or only a front of it was, and one more line is counted as lost
abbrev pub WritesOrCounts : Option (List ℕ) → Option (List ℕ) → Missed → Missed → List ℕ → Type 0
WritesOrCounts held now before after text =
    (Appends held now text × (after ≡ none_missed))
    ⊎ ((n : ℕ) × PutsFirst held now text n × (after ≡ one_more_missed before n))

module _ {W : Type 0} (contents : W → Option (List ℕ)) where
  -- a log that is on was told an entry: its line was written, or is counted; one that is off stays as it is
  pub record TellsEntry (old : Log W) (entry : Entry) (new : Log W) : Type 0 where
    pub line : old.is_on ≡ true
        → WritesOrCounts (contents old.writer) (contents new.writer) old.missed new.missed (told_text old.has_levels old.missed entry)
    pub off : old.is_on ≡ false → new ≡ old
    pub on : new.is_on ≡ old.is_on
    pub levels : new.has_levels ≡ old.has_levels

  -- a log was told so many entries, one after another
  abbrev pub TellsMany : Log W → Log W → ℕ → Type 0
  TellsMany old new count =
      (entries : List Entry) × FoldsTo TellsEntry old entries new × (length entries ≡ count)
