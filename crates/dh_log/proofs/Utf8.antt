-- Bytes as a text.
use Rattle.std.proofs.Common.{◌≡◌, ℕ, true, false, cond, List, [], ◌∙◌, ap, refl, sym}
use Rattle.std.specs.Str.{IsUtf8, is_utf8}
use Rattle.std.proofs.lemmas.Str.{is_utf8-from_IsUtf8, IsUtf8-from_is_utf8}
use Rattle.dh_log.specs.Heads.{text_in}

pub utf8_text : (bytes text : List ℕ) → text ≡ bytes → IsUtf8 bytes → text ≡ text_in bytes
utf8_text bytes text same utf8 = same ∙ sym (ap (λ b. cond b bytes []) (is_utf8-from_IsUtf8 bytes utf8))

not_utf8 : (bytes : List ℕ) → (IsUtf8 bytes → ⊥) → is_utf8 bytes ≡ false
not_utf8 bytes h =
    elim (is_utf8 bytes) as (λ b. is_utf8 bytes ≡ b → b ≡ false) [
      | true ↦ λ e. absurd (h (IsUtf8-from_is_utf8 bytes e))
      | false ↦ λ e. refl
    ] refl

pub no_text : (bytes : List ℕ) → (IsUtf8 bytes → ⊥) → [] ≡ text_in bytes
no_text bytes h = sym (ap (λ b. cond b bytes []) (not_utf8 bytes h))
