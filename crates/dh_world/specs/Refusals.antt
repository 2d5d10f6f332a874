-- The numbers and names of refusals, and the first refusal of several checks.
use Rattle.std.specs.Prelude.{ℕ, Bool, true, false, List, [], ◌∷◌, Option, Some, None, codes}
use Rattle.dh_world.specs.declared.refusal.Refusal.{Refusal}
use Rattle.dh_world.specs.declared.refusal.Refusal.TheVariants.{BadHost, BadLang, BadRef, BadPath, BadPage, BadPattern, BadRedirect, BadToken, BadKey, NoProject, ProjectTaken, WrongKey, LangTaken, NoLang, NoVersion, SlugTaken, Inactive, BadPlace, TooMany, PassTaken, NoPass, PatternRefused, Store, OutOfMemory, BadUntil}

abbrev pub refusal_number : Refusal → ℕ
refusal_number = elim [
  | BadHost ↦ 1
  | BadLang ↦ 2
  | BadRef ↦ 3
  | BadPath ↦ 4
  | BadPage ↦ 5
  | BadPattern ↦ 6
  | BadRedirect fault ↦ 7
  | BadToken ↦ 8
  | BadKey ↦ 9
  | NoProject ↦ 10
  | ProjectTaken ↦ 11
  | WrongKey ↦ 12
  | LangTaken ↦ 13
  | NoLang ↦ 14
  | NoVersion ↦ 15
  | SlugTaken ↦ 16
  | Inactive ↦ 17
  | BadPlace ↦ 18
  | TooMany ↦ 19
  | PassTaken ↦ 20
  | NoPass ↦ 21
  | PatternRefused place ↦ 22
  | Store ↦ 23
  | OutOfMemory ↦ 24
  | BadUntil ↦ 25
]

abbrev pub refusal_name : Refusal → List ℕ
refusal_name BadHost = codes "BadHost"
refusal_name BadLang = codes "BadLang"
refusal_name BadRef = codes "BadRef"
refusal_name BadPath = codes "BadPath"
refusal_name BadPage = codes "BadPage"
refusal_name BadPattern = codes "BadPattern"
refusal_name (BadRedirect fault) = codes "BadRedirect"
refusal_name BadToken = codes "BadToken"
refusal_name BadKey = codes "BadKey"
refusal_name NoProject = codes "NoProject"
refusal_name ProjectTaken = codes "ProjectTaken"
refusal_name WrongKey = codes "WrongKey"
refusal_name LangTaken = codes "LangTaken"
refusal_name NoLang = codes "NoLang"
refusal_name NoVersion = codes "NoVersion"
refusal_name SlugTaken = codes "SlugTaken"
refusal_name Inactive = codes "Inactive"
refusal_name BadPlace = codes "BadPlace"
refusal_name TooMany = codes "TooMany"
refusal_name PassTaken = codes "PassTaken"
refusal_name NoPass = codes "NoPass"
refusal_name (PatternRefused place) = codes "PatternRefused"
refusal_name Store = codes "Store"
refusal_name OutOfMemory = codes "OutOfMemory"
refusal_name BadUntil = codes "BadUntil"

-- the refusal, unless the test passes
abbrev pub unless : Bool → Refusal → Option Refusal
unless true refusal = None
unless false refusal = Some refusal

-- the first refusal, if there is one, else the second
abbrev pub or_else : Option Refusal → Option Refusal → Option Refusal
or_else (Some refusal) rest = Some refusal
or_else None rest = rest

-- the first refusal of a list of checks
abbrev pub first_refusal : List (Option Refusal) → Option Refusal
first_refusal [] = None
first_refusal (check ∷ checks) = or_else check (first_refusal checks)
