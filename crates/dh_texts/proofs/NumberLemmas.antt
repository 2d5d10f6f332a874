-- A text of digits that `parse` reads as no number is too large, or empty.
use Rattle.std.proofs.Common.{◌≡◌, ◌∙◌, ℕ, ◌^◌, ◌<◌, Bool, true, false, ◌&&◌, nat_lt, refl, sym}
use Rattle.std.proofs.Common.{ap, length, List, [], ◌∷◌, Option, Some, None, Err}
use Rattle.std.specs.Prelude.{if◌then◌else◌}
use Rattle.std.specs.Char.{is_ascii_digit}
use Rattle.std.specs.List.{list_all}
use Rattle.std.specs.Str.{all_ascii_digits}
use Rattle.std.specs.Str.Parse.{ParsesUnsigned, digits_value}
use Rattle.std.proofs.lemmas.Bool.{ltb-true}
use Rattle.std.proofs.lemmas.Str.Parse.{parse_digits, numerals_by_value, tells_all_ascii_digits}
use Rattle.dh_texts.specs.Numbers.{decimal_below}

-- the number of the definition, by its three tests
abbrev told : ℕ → Bool → Bool → Bool → Option ℕ
told n digits some small = if digits && some && small then Some n else None

all_ascii : (text : List ℕ) → list_all is_ascii_digit text ≡ all_ascii_digits text
all_ascii [] = refl
all_ascii (b ∷ bs) = ap (λ rest. is_ascii_digit b && rest) (all_ascii bs)

too_large : (bound n len : ℕ) (some small : Bool) → nat_lt 0 len ≡ some → nat_lt n bound ≡ small
    → ¬ ((0 < len) × (n < bound)) → told n true some small ≡ None
too_large bound n len true true is_some is_small not =
    absurd (not (ltb-true _ _ is_some, ltb-true _ _ is_small))
too_large bound n len true false is_some is_small not = refl
too_large bound n len false small is_some is_small not = refl

pub not_read : {E : Type 0} (k : ℕ) (text : List ℕ) (error : E)
    → ParsesUnsigned k 10 text (Err error) → list_all is_ascii_digit text ≡ true
    → decimal_below (2 ^ k) text ≡ None
not_read k text error refused digits =
    let n = digits_value 10 text in
    let not = parse_digits (numerals_by_value _ tells_all_ascii_digits) k text (Err error) refused
    (sym (all_ascii text) ∙ digits) in
    ap (λ d. told n d (nat_lt 0 (length text)) (nat_lt n (2 ^ k))) digits
    ∙ too_large (2 ^ k) n (length text) _ _ refl refl not
