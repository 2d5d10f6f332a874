-- How a whole script is read.
use Rattle.std.specs.Prelude.{ℕ, ◌≤◌, ◌<◌, Bool, true, false, List, length, Result, Ok, Err, ⊤}
use Rattle.std.specs.Str.{IsUtf8}
pub use Rattle.dh_ports.specs.Reading.{TookAtMost}
use Rattle.dh_ports.specs.declared.stop.Stop.TheVariants.{Read, TooManyTurns, Memory}
use Rattle.dh_script.specs.declared.fault.RunFault.TheVariants.{Write}
use Rattle.dh_script.specs.declared.fault.ScriptFault.{ScriptFault}
use Rattle.dh_script.specs.declared.fault.ScriptFault.TheVariants.{Unread, TooLong, NotText, Run}
use Rattle.dh_ports.specs.declared.intake.TheConstants.{MOST_READS}
use Rattle.dh_script.specs.declared.script.TheConstants.{MOST_SCRIPT_BYTES}

-- whether the answer is that the reader failed
abbrev pub reader_failed : {A : Type 0} → Result A ScriptFault → Bool
reader_failed (Err (Unread Read)) = true
reader_failed _ = false

abbrev pub is_write : ScriptFault → Bool
is_write (Run Write) = true
is_write _ = false

-- whether the answer is that the writer failed
abbrev pub writer_failed : {A : Type 0} → Result A ScriptFault → Bool
writer_failed (Ok value) = false
writer_failed (Err fault) = is_write fault

-- what the fault says of an input, of which at most this many bytes may be read
abbrev pub IsCauseOver : ℕ → ScriptFault → List ℕ → Type 0
IsCauseOver most TooLong input = most < length input
IsCauseOver most NotText input = IsUtf8 input → ⊥
IsCauseOver most (Unread TooManyTurns) input = MOST_READS ≤ length input
IsCauseOver most (Unread Read) input = ⊤
IsCauseOver most (Unread Memory) input = ⊤
IsCauseOver most (Run fault) input = ⊤

-- what the fault says of the input of a script
abbrev pub IsCause : ScriptFault → List ℕ → Type 0
IsCause = IsCauseOver MOST_SCRIPT_BYTES

-- a script: UTF-8, of at most 1,048,576 bytes
abbrev pub IsScript : List ℕ → Type 0
IsScript input = IsUtf8 input × (length input ≤ MOST_SCRIPT_BYTES)
