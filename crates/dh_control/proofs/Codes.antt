-- The words of reasons.
use Rattle.std.proofs.Common.{◌≡◌, ℕ, ◌==◌, Bool, true, false, [], refl}
use Rattle.std.specs.List.{list_all}
use Rattle.std.specs.Prelude.{codes, nat_lt, if◌then◌else◌}
use Rattle.dh_ports.specs.declared.fault.Fault.TheVariants as fault
use Rattle.dh_world.specs.World.{Text}
use Rattle.dh_world.specs.declared.refusal.Refusal.TheVariants as refusal
use Rattle.dh_script.specs.Reasons.{reason_code}
use Rattle.dh_script.specs.declared.reasons.Reason.{Reason}
use Rattle.dh_script.specs.declared.reasons.Reason.TheVariants.{Refused, Failed, BadTarget, Usage}
use Rattle.dh_control.specs.Cutting.{whole_lines}

abbrev pub is_small : ℕ → Bool
is_small byte = nat_lt byte 128

-- which of six words
abbrev word_by : Bool → Bool → Bool → Bool → Bool → Text
word_by a b c d e =
    if a then codes "7.1" else if b then codes "7.2" else if c then codes "7.3" else if d then codes "7.4"
    else if e then codes "7.5" else codes "7.6"

-- they are ASCII
words_small : (a b c d e : Bool) → list_all is_small (word_by a b c d e) ≡ true
words_small true b c d e = refl
words_small false true c d e = refl
words_small false false true d e = refl
words_small false false false true e = refl
words_small false false false false true = refl
words_small false false false false false = refl

pub code_small : (reason : Reason) → list_all is_small (reason_code reason) ≡ true
code_small (Refused refusal.BadHost) = refl
code_small (Refused refusal.BadLang) = refl
code_small (Refused refusal.BadRef) = refl
code_small (Refused refusal.BadPath) = refl
code_small (Refused refusal.BadPage) = refl
code_small (Refused refusal.BadPattern) = refl
code_small (Refused refusal.BadToken) = refl
code_small (Refused refusal.BadKey) = refl
code_small (Refused refusal.NoProject) = refl
code_small (Refused refusal.ProjectTaken) = refl
code_small (Refused refusal.WrongKey) = refl
code_small (Refused refusal.LangTaken) = refl
code_small (Refused refusal.NoLang) = refl
code_small (Refused refusal.NoVersion) = refl
code_small (Refused refusal.SlugTaken) = refl
code_small (Refused refusal.Inactive) = refl
code_small (Refused refusal.BadPlace) = refl
code_small (Refused refusal.TooMany) = refl
code_small (Refused refusal.PassTaken) = refl
code_small (Refused refusal.NoPass) = refl
code_small (Refused refusal.Store) = refl
code_small (Refused refusal.OutOfMemory) = refl
code_small (Refused refusal.BadUntil) = refl
code_small (Refused (refusal.BadRedirect n)) = words_small (n == 1) (n == 2) (n == 3) (n == 4) (n == 5)
code_small (Refused (refusal.PatternRefused place)) = refl
code_small (Failed fault.Store) = refl
code_small (Failed fault.Memory) = refl
code_small BadTarget = refl
code_small Usage = refl

-- they have no LF
words_open : (a b c d e : Bool) → whole_lines (word_by a b c d e) ≡ []
words_open true b c d e = refl
words_open false true c d e = refl
words_open false false true d e = refl
words_open false false false true e = refl
words_open false false false false true = refl
words_open false false false false false = refl

pub code_open : (reason : Reason) → whole_lines (reason_code reason) ≡ []
code_open (Refused refusal.BadHost) = refl
code_open (Refused refusal.BadLang) = refl
code_open (Refused refusal.BadRef) = refl
code_open (Refused refusal.BadPath) = refl
code_open (Refused refusal.BadPage) = refl
code_open (Refused refusal.BadPattern) = refl
code_open (Refused refusal.BadToken) = refl
code_open (Refused refusal.BadKey) = refl
code_open (Refused refusal.NoProject) = refl
code_open (Refused refusal.ProjectTaken) = refl
code_open (Refused refusal.WrongKey) = refl
code_open (Refused refusal.LangTaken) = refl
code_open (Refused refusal.NoLang) = refl
code_open (Refused refusal.NoVersion) = refl
code_open (Refused refusal.SlugTaken) = refl
code_open (Refused refusal.Inactive) = refl
code_open (Refused refusal.BadPlace) = refl
code_open (Refused refusal.TooMany) = refl
code_open (Refused refusal.PassTaken) = refl
code_open (Refused refusal.NoPass) = refl
code_open (Refused refusal.Store) = refl
code_open (Refused refusal.OutOfMemory) = refl
code_open (Refused refusal.BadUntil) = refl
code_open (Refused (refusal.BadRedirect n)) = words_open (n == 1) (n == 2) (n == 3) (n == 4) (n == 5)
code_open (Refused (refusal.PatternRefused place)) = refl
code_open (Failed fault.Store) = refl
code_open (Failed fault.Memory) = refl
code_open BadTarget = refl
code_open Usage = refl
