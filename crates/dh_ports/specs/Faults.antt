-- Facts that hold of a call by the fault that it answers.
use Rattle.std.specs.Prelude.{◌≡◌, Option, Result, Ok, Err, IsSome, ⊤}
use Rattle.dh_ports.specs.declared.fault.Fault.{Fault}
use Rattle.dh_ports.specs.declared.fault.Fault.TheVariants.{Store, Memory}

-- the fact, unless the answer is that the store failed
abbrev pub UnlessStore : {T : Type 0} → Result T Fault → Type 0 → Type 0
UnlessStore (Ok value) P = P
UnlessStore (Err Memory) P = P
UnlessStore (Err Store) P = ⊤

-- the fact, if the answer is that the store failed
abbrev pub OnStore : {T : Type 0} → Result T Fault → Type 0 → Type 0
OnStore (Ok value) P = ⊤
OnStore (Err Memory) P = ⊤
OnStore (Err Store) P = P

-- the call gives this value, and fails only where there is a value to give
abbrev pub GivesMaybe : {T E : Type 0} → Option T → Result (Option T) E → Type 0
GivesMaybe value (Ok given) = given ≡ value
GivesMaybe value (Err fault) = IsSome value
