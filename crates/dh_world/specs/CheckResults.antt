-- What the checks of texts answer, and the refusals for faults.
use Rattle.std.specs.Prelude.{◌≡◌, ◌⊎◌, Bool, true, false, Option, Some, None, Result, Ok, Err}
use Rattle.dh_world.specs.World.{Text}
use Rattle.dh_texts.specs.declared.fault.TextFault.{TextFault}
use Rattle.dh_texts.specs.declared.fault.TextFault.TheVariants as text
use Rattle.dh_ports.specs.declared.fault.Fault.{Fault}
use Rattle.dh_ports.specs.declared.fault.Fault.TheVariants as fault
use Rattle.dh_world.specs.declared.refusal.Refusal.{Refusal}
use Rattle.dh_world.specs.declared.refusal.Refusal.TheVariants.{BadHost, BadLang, BadRef, BadPath, BadToken, Store, OutOfMemory}

-- the refusal of a command for the fault of a text; `BadTarget` never comes, since no command has a target
abbrev pub refusal_of : TextFault → Refusal
refusal_of text.BadHost = BadHost
refusal_of text.BadLang = BadLang
refusal_of text.BadRef = BadRef
refusal_of text.BadPath = BadPath
refusal_of text.BadToken = BadToken
refusal_of text.BadTarget = BadPath
refusal_of text.Memory = OutOfMemory

-- a text that passes is answered as it is; one that does not pass is refused, and either may be refused as out of memory
abbrev pub ReadsText : (Text → Bool) → Refusal → Text → Result Text Refusal → Type 0
ReadsText test refusal text (Ok value) = (value ≡ text) × (test text ≡ true)
ReadsText test refusal text (Err e) = ((e ≡ refusal) × (test text ≡ false)) ⊎ (e ≡ OutOfMemory)

-- a value with the property is answered only where nothing is wrong; the refusal tells what is wrong, or out of memory
abbrev pub ChecksForWrong : {A : Type 0} → Option Refusal → (A → Type 0) → Result A Refusal → Type 0
ChecksForWrong wrong P (Ok value) = (wrong ≡ None) × P value
ChecksForWrong wrong P (Err e) = (wrong ≡ Some e) ⊎ (e ≡ OutOfMemory)

-- as `ChecksForWrong`, but where nothing is wrong, one more refusal may come
abbrev pub ChecksOr : {A : Type 0} → Option Refusal → (A → Type 0) → (Refusal → Type 0) → Result A Refusal → Type 0
ChecksOr wrong P Q (Ok value) = (wrong ≡ None) × P value
ChecksOr wrong P Q (Err e) = (wrong ≡ Some e) ⊎ ((e ≡ OutOfMemory) ⊎ ((wrong ≡ None) × Q e))

-- the refusal of a command for a fault of the tables
abbrev pub refusal_from : Fault → Refusal
refusal_from fault.Store = Store
refusal_from fault.Memory = OutOfMemory

-- the refusal is a fault of the store, or out of memory
abbrev pub IsFault : Refusal → Type 0
IsFault e = (e ≡ Store) ⊎ (e ≡ OutOfMemory)
