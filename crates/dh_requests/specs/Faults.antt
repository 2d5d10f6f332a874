-- The faults of a head, and what looking for a part of a head answers.
use Rattle.std.specs.Prelude.{◌≡◌, Option, Some, None, Result, Ok, Err, ⊤}
use Rattle.dh_texts.specs.declared.fault.TextFault.{TextFault}
use Rattle.dh_texts.specs.declared.fault.TextFault.TheVariants as text
use Rattle.dh_requests.specs.declared.fault.HeadFault.{HeadFault}
use Rattle.dh_requests.specs.declared.fault.HeadFault.TheVariants.{BadText, NoLine, TwoLines, Memory}

-- the fault of a head for the fault of a text in it
abbrev pub head_fault : TextFault → HeadFault
head_fault text.Memory = Memory
head_fault _ = BadText

-- the defined value is found; a fault other than out of memory comes only where no value is defined
abbrev pub FindsInHead : {A : Type 0} → Option A → Result A HeadFault → Type 0
FindsInHead spec (Ok value) = spec ≡ Some value
FindsInHead spec (Err BadText) = spec ≡ None
FindsInHead spec (Err NoLine) = spec ≡ None
FindsInHead spec (Err TwoLines) = spec ≡ None
FindsInHead spec (Err Memory) = ⊤
