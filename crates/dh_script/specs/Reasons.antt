-- Why what a line asks for was not done.
use Rattle.std.specs.Prelude.{◌≡◌, ℕ, ◌==◌, Bool, true, false, if◌then◌else◌, Option, Some, None, Result, Ok, Err, codes, ⊤}
use Rattle.sqlite_trees.specs.declared.store.Store.{Ghosts}
use Rattle.dh_ports.specs.declared.fault.Fault.{Fault}
use Rattle.dh_ports.specs.declared.fault.Fault.TheVariants as fault
use Rattle.dh_desk.specs.Desk.{StoreFaultHasCause, Standing}
use Rattle.dh_world.specs.World.{Text}
use Rattle.dh_world.specs.declared.outcome.Outcome.{Outcome}
use Rattle.dh_world.specs.declared.outcome.Outcome.TheVariants as outcome
use Rattle.dh_world.specs.declared.refusal.Refusal.{Refusal}
use Rattle.dh_world.specs.declared.refusal.Refusal.TheVariants as refusal
use Rattle.dh_world.specs.declared.refusal.Refusal.TheVariants.{NoProject}
use Rattle.dh_script.specs.Outcomes.{text_of_refusal, text_of_fault}
use Rattle.dh_script.specs.declared.reasons.Reason.{Reason}
use Rattle.dh_script.specs.declared.reasons.Reason.TheVariants.{Refused, Failed, BadTarget, Usage}

-- why an outcome is a refusal or a failure
abbrev pub reason_of : Outcome → Option Reason
reason_of (outcome.Applied answer) = None
reason_of (outcome.Refused refusal) = Some (Refused refusal)
reason_of (outcome.Replied reply) = None
reason_of (outcome.Failed fault) = Some (Failed fault)

-- why a list was refused or failed
abbrev pub reason_of_list : Result (Option Text) Fault → Option Reason
reason_of_list (Ok (Some listed)) = None
reason_of_list (Ok None) = Some (Refused NoProject)
reason_of_list (Err fault) = Some (Failed fault)

-- what a line prints that was refused for this reason
abbrev pub text_of_reason : Reason → Text
text_of_reason (Refused refusal) = text_of_refusal refusal
text_of_reason (Failed fault) = text_of_fault fault
text_of_reason BadTarget = codes "bad target"
text_of_reason Usage = codes "usage"

-- what was refused has a reason, whose text is printed; what was not refused has none
abbrev pub ExplainsRefusal : Option Reason → Text → Bool → Type 0
ExplainsRefusal None text refused = refused ≡ false
ExplainsRefusal (Some reason) text refused = (text ≡ text_of_reason reason) × (refused ≡ true)

-- A read or a list is told to have failed for the store only where the store counted a fault meanwhile, or was shut
-- before, or a fault had closed the desk.
abbrev pub BlamesStore : {S : Type 0} → Ghosts S → Standing S → Standing S → Option Reason → Type 0
BlamesStore g old new (Some (Failed fault)) =
    StoreFaultHasCause g {T = Unit {0}} old.tables new.tables (Err fault) (old.closed ≡ true)
BlamesStore g old new reason = ⊤

-- ---- reasons as data

-- the number of the refusal of a redirect, and which of six faults it has
abbrev pub redirect_code : ℕ → Text
redirect_code number =
    if number == 1 then codes "7.1"
    else if number == 2 then codes "7.2"
    else if number == 3 then codes "7.3"
    else if number == 4 then codes "7.4"
    else if number == 5 then codes "7.5"
    else codes "7.6"

-- the number of a refusal; the place of a rule is left out
abbrev pub refusal_code : Refusal → Text
refusal_code refusal.BadHost = codes "1"
refusal_code refusal.BadLang = codes "2"
refusal_code refusal.BadRef = codes "3"
refusal_code refusal.BadPath = codes "4"
refusal_code refusal.BadPage = codes "5"
refusal_code refusal.BadPattern = codes "6"
refusal_code (refusal.BadRedirect number) = redirect_code number
refusal_code refusal.BadToken = codes "8"
refusal_code refusal.BadKey = codes "9"
refusal_code refusal.NoProject = codes "10"
refusal_code refusal.ProjectTaken = codes "11"
refusal_code refusal.WrongKey = codes "12"
refusal_code refusal.LangTaken = codes "13"
refusal_code refusal.NoLang = codes "14"
refusal_code refusal.NoVersion = codes "15"
refusal_code refusal.SlugTaken = codes "16"
refusal_code refusal.Inactive = codes "17"
refusal_code refusal.BadPlace = codes "18"
refusal_code refusal.TooMany = codes "19"
refusal_code refusal.PassTaken = codes "20"
refusal_code refusal.NoPass = codes "21"
refusal_code (refusal.PatternRefused place) = codes "22"
refusal_code refusal.Store = codes "23"
refusal_code refusal.OutOfMemory = codes "24"
refusal_code refusal.BadUntil = codes "25"

-- a reason in one word: all that its sentence says follows from it
abbrev pub reason_code : Reason → Text
reason_code (Refused refusal) = refusal_code refusal
reason_code (Failed fault.Store) = codes "store"
reason_code (Failed fault.Memory) = codes "memory"
reason_code BadTarget = codes "target"
reason_code Usage = codes "usage"

-- the word is this refusal's; where the answer is none, it is no refusal's
abbrev pub ReadsRefusal : Text → Option Refusal → Type 0
ReadsRefusal word None = (refusal : Refusal) → word ≡ refusal_code refusal → ⊥
ReadsRefusal word (Some refusal) = word ≡ refusal_code refusal

-- the word is this reason's; where the answer is none, it is no reason's
abbrev pub ReadsReason : Text → Option Reason → Type 0
ReadsReason word None = (reason : Reason) → word ≡ reason_code reason → ⊥
ReadsReason word (Some reason) = word ≡ reason_code reason
