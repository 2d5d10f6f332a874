-- What the log tells of a request.
use Rattle.std.specs.Prelude.{ℕ, ◌||◌, Bool, not, List, take, drop, position, Option, Some, None, Result, Ok, Err, codes, nat_eq, nat_le, if◌then◌else◌}
use Rattle.std.specs.Fmt.{decimal}
use Rattle.dh_log.specs.Heads.{up_to}
use Rattle.dh_log.specs.Lines.{shown}
use Rattle.dh_log.specs.declared.entry.Level.{Level}
use Rattle.dh_log.specs.declared.entry.Level.TheVariants.{Error, Warning, Info}
use Rattle.dh_http.specs.declared.fault.Done.{Done}
use Rattle.dh_http.specs.declared.fault.EngineFault.{EngineFault}
use Rattle.dh_http.specs.declared.fault.EngineFault.TheVariants as fault
use Rattle.dh_server.specs.declared.beginning.TheConstants.{MOST_LINE_TOLD}

abbrev pub ends_line : ℕ → Bool
ends_line byte = nat_eq byte 13 || nat_eq byte 10

-- what stands at the place and behind it, or all where there is no place
abbrev pub from_place : Option ℕ → List ℕ → List ℕ
from_place None bytes = bytes
from_place (Some at) bytes = drop at bytes

-- what stands behind the empty lines that may come before a request (RFC 9112, section 2.2)
abbrev pub begun : List ℕ → List ℕ
begun bytes = from_place (position (λ byte. not (ends_line byte)) bytes) bytes

-- what came up to the first CR or LF, but no more than 2,048 bytes
abbrev pub line_in : List ℕ → List ℕ
line_in bytes = take MOST_LINE_TOLD (up_to (position ends_line bytes) bytes)

-- the first line that is not empty
abbrev pub first_line : List ℕ → List ℕ
first_line bytes = line_in (begun bytes)

-- how grave the end of a request is
abbrev pub level_of : Result Done EngineFault → Level
level_of (Ok done) = if nat_le 500 done.status then Error else Info
level_of (Err fault) = Warning

-- the word that tells the end of a request
abbrev pub told_as : Result Done EngineFault → List ℕ
told_as (Ok done) = decimal done.status
told_as (Err fault.Read) = shown (codes "Read")
told_as (Err (fault.Write n)) = shown (codes "Write")
told_as (Err fault.TooManyTurns) = shown (codes "TooManyTurns")
