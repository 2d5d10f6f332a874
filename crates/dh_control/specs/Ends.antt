-- How the end of a message is told.
use Rattle.std.specs.Prelude.{◌≡◌, [], ◌∷◌, ◌++◌, Option, Some, None, Result, Ok, Err, codes}
use Rattle.dh_script.specs.Faults.{script_fault_name}
use Rattle.dh_script.specs.Reasons.{reason_code}
use Rattle.dh_script.specs.declared.fault.ScriptFault.{ScriptFault}
use Rattle.dh_script.specs.declared.reasons.Reason.{Reason}
use Rattle.dh_world.specs.World.{Text}
use Rattle.dh_control.specs.declared.end.End.{End}
use Rattle.dh_control.specs.declared.end.End.TheVariants.{Done, Refused, Unknown, Elsewhere}

-- how one order ends, by why it was refused, where it was
abbrev pub end_of : Option Reason → End
end_of (Some reason) = Refused reason
end_of None = Done

abbrev pub end_code : Result End ScriptFault → Text
end_code (Ok Done) = codes "0"
end_code (Ok (Refused reason)) = codes "1 "
end_code (Ok Unknown) = codes "2"
end_code (Ok Elsewhere) = codes "4"
end_code (Err fault) = codes "3 "

abbrev pub end_name : Result End ScriptFault → Text
end_name (Ok (Refused reason)) = reason_code reason
end_name (Ok end) = []
end_name (Err fault) = script_fault_name fault

-- `0`, `1` and the word of the reason where an order was refused, `2` where the message is none of this version, `4` where it is
-- for another file, or `3` and the name of a fault
abbrev pub end_as_told : Result End ScriptFault → Text
end_as_told ended = end_code ended ++ end_name ended

-- the last line of an answer
abbrev pub end_line : Result End ScriptFault → Text
end_line ended = codes "end " ++ end_code ended ++ (end_name ended ++ 10 ∷ [])

-- the word tells this end; where the answer is none, the word tells no end
abbrev pub ReadsEnd : Text → Option (Result End ScriptFault) → Type 0
ReadsEnd word None = (ended : Result End ScriptFault) → word ≡ end_as_told ended → ⊥
ReadsEnd word (Some ended) = word ≡ end_as_told ended

-- the word tells that an order was refused, for this reason; where the answer is none, it tells no reason
abbrev pub ReadsRefused : Text → Option (Result End ScriptFault) → Type 0
ReadsRefused word None = (reason : Reason) → word ≡ end_as_told (Ok (Refused reason)) → ⊥
ReadsRefused word (Some ended) = word ≡ end_as_told ended
