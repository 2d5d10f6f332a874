-- Which words tell an end.
use Rattle.std.proofs.Common.{◌≡◌, ℕ, ◌<◌, Bool, true, false, ◌&&◌, [], ◌∷◌, refl, sym, subst, None, Result, Ok, Err, arith, IsAscii, IsUtf8}
use Rattle.std.specs.List.{list_all}
use Rattle.std.proofs.lemmas.Bool.{false≢true}
use Rattle.std.proofs.lemmas.Bool.Decides.{nat_tests}
use Rattle.std.proofs.lemmas.Str.{IsUtf8-from_ascii}
use Rattle.std.proofs.lemmas.Str.Ascii.{IsAscii-cons, IsAscii-nil}
use Rattle.dh_ports.specs.declared.stop.Stop.TheVariants.{Read, TooManyTurns, Memory}
use Rattle.dh_script.specs.declared.fault.RunFault.TheVariants as run
use Rattle.dh_script.specs.declared.fault.ScriptFault.{ScriptFault}
use Rattle.dh_script.specs.declared.fault.ScriptFault.TheVariants.{Unread, TooLong, NotText, Run}
use Rattle.dh_world.specs.World.{Text}
use Rattle.dh_control.specs.Ends.{end_as_told, ReadsEnd}
use Rattle.dh_control.specs.declared.end.End.{End}
use Rattle.dh_control.specs.declared.end.End.TheVariants.{Done, Refused, Unknown, Elsewhere}
use Rattle.dh_control.proofs.Codes.{code_small, is_small}

small : (byte : ℕ) → is_small byte ≡ true → byte < 128
small byte is = grind (arith, nat_tests)

both : (a b : Bool) → (a && b) ≡ true → (a ≡ true) × (b ≡ true)
both true true is = (refl, refl)
both true false is = absurd (false≢true is)
both false b is = absurd (false≢true is)

all_ascii : (text : Text) → list_all is_small text ≡ true → IsAscii text
all_ascii [] are = IsAscii-nil
all_ascii (byte ∷ text) are =
    let parts = both (is_small byte) (list_all is_small text) are in
    IsAscii-cons byte text (small byte parts.0) (all_ascii text parts.1)

-- bytes below 128 are text
pub small_text : (text : Text) → list_all is_small text ≡ true → IsUtf8 text
small_text text are = IsUtf8-from_ascii text (all_ascii text are)

is_text : (ended : Result End ScriptFault) → IsUtf8 (end_as_told ended)
is_text (Ok Done) = small_text (end_as_told (Ok Done)) refl
is_text (Ok (Refused reason)) = small_text (end_as_told (Ok (Refused reason))) (code_small reason)
is_text (Ok Unknown) = small_text (end_as_told (Ok Unknown)) refl
is_text (Ok Elsewhere) = small_text (end_as_told (Ok Elsewhere)) refl
is_text (Err (Unread Read)) = small_text (end_as_told (Err (Unread Read))) refl
is_text (Err (Unread TooManyTurns)) = small_text (end_as_told (Err (Unread TooManyTurns))) refl
is_text (Err (Unread Memory)) = small_text (end_as_told (Err (Unread Memory))) refl
is_text (Err TooLong) = small_text (end_as_told (Err TooLong)) refl
is_text (Err NotText) = small_text (end_as_told (Err NotText)) refl
is_text (Err (Run run.Memory)) = small_text (end_as_told (Err (Run run.Memory))) refl
is_text (Err (Run run.Write)) = small_text (end_as_told (Err (Run run.Write))) refl

-- what is no text tells none
pub no_text : (word : Text) → (IsUtf8 word → ⊥) → ReadsEnd word None
no_text word none ended is = none (subst IsUtf8 (sym is) (is_text ended))
