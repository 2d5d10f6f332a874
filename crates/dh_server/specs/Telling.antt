-- What is told where it may be lost: a sink that has failed takes no more. And what the log is told of a connection.
use Rattle.std.specs.Prelude.{◌≡◌, ℕ, Bool, false, List, Option, Result}
use Rattle.std.specs.Io.KnownBytes.{Appends}
use Rattle.dh_http.specs.declared.fault.Done.{Done}
use Rattle.dh_http.specs.declared.fault.EngineFault.{EngineFault}
use Rattle.dh_log.specs.Entries.{IsOfMessage, IsOfRequest}
use Rattle.dh_log.specs.Lines.{shown_word}
use Rattle.dh_log.specs.declared.entries.Answered.{Answered}
use Rattle.dh_log.specs.declared.entry.Entry.{Entry}
use Rattle.dh_log.specs.declared.entry.Measured.{Measured}
use Rattle.dh_log.specs.declared.subject.Note.{Note}
use Rattle.dh_log.specs.declared.subject.Ordered.{Ordered}
use Rattle.dh_server.specs.Lines.{first_line, level_of, told_as}

module _ {S : Type 0} (broken : S → Bool) (held : S → Option (List ℕ)) where
  -- the text stands behind what the sink held, unless the sink has failed
  pub record WritesUnlessBroken (old new : S) (text : List ℕ) : Type 0 where
    pub live : broken new ≡ false → broken old ≡ false
    pub said : broken new ≡ false → Appends (held old) (held new) text

  -- some text stands behind what the sink held, unless the sink has failed
  abbrev pub TellsSome : S → S → Type 0
  TellsSome old new = (text : List ℕ) × WritesUnlessBroken old new text

-- the entry is of a request that came at this moment, ended so, was noted so, and began with these bytes
abbrev pub IsEntryOfRequest : Result Done EngineFault → ℕ → Note → List ℕ → Entry → Type 0
IsEntryOfRequest result moment note bytes entry =
    (answered : Answered) × (measured : Measured)
    × (answered.level ≡ level_of result) × (shown_word answered.outcome ≡ told_as result) × (answered.line.now ≡ first_line bytes)
    × (measured.moment ≡ moment)
    × IsOfRequest answered note measured entry

-- the entry is of a message that came at this moment, and was noted so
abbrev pub IsEntryOfMessage : ℕ → Ordered → Entry → Type 0
IsEntryOfMessage moment ordered entry =
    (measured : Measured) × (measured.moment ≡ moment) × IsOfMessage ordered measured entry
