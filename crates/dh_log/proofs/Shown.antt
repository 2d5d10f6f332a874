-- How texts are shown.
use Rattle.std.proofs.Common.{◌≡◌, ℕ, ◌/◌, ◌%◌, ◌^◌, ◌<◌, ◌≤◌, true, false, List, [], ◌∷◌, ◌++◌, nat_eq, length, refl, arith, lit≤}
use Rattle.std.specs.Prelude.{codes, if◌then◌else◌}
use Rattle.std.specs.Fmt.{digit_glyph}
use Rattle.std.specs.List.{All, flat_map}
use Rattle.std.proofs.lemmas.Bool.Decides.{nat_tests}
use Rattle.std.proofs.lemmas.List.Elements.{All-append, All-cons, All-head, All-nil, All-tail}
use Rattle.dh_texts.specs.Escapes.{escape_of, escaped, is_plain, kept_or_escaped}
use Rattle.dh_log.specs.Lines.{IsVisible, shown}

glyph_low : (d : ℕ) → d < 16 → 33 ≤ digit_glyph true d
glyph_low d small = grind (arith, nat_tests)

glyph_high : (d : ℕ) → d < 16 → digit_glyph true d ≤ 126
glyph_high d small = grind (arith, nat_tests)

plain_low : (b : ℕ) → is_plain b ≡ true → 33 ≤ b
plain_low b is = grind (arith, nat_tests)

plain_high : (b : ℕ) → is_plain b ≡ true → b ≤ 126
plain_high b is = grind (arith, nat_tests)

high_digit : (b : ℕ) → b < 2 ^ 8 → b / 16 < 16
high_digit b small = omega arith

low_digit : (b : ℕ) → b % 16 < 16
low_digit b = omega arith

glyph_visible : (d : ℕ) → d < 16 → IsVisible (digit_glyph true d)
glyph_visible d small = (glyph_low d small, glyph_high d small)

escape_visible : (b : ℕ) → b < 2 ^ 8 → All IsVisible (escape_of b)
escape_visible b small =
    let low = digit_glyph true (b % 16) ∷ [] in
    let high = digit_glyph true (b / 16) ∷ low in
    All-cons IsVisible 37 high (lit≤ tt, lit≤ tt)
    (All-cons IsVisible (digit_glyph true (b / 16)) low (glyph_visible (b / 16) (high_digit b small))
    (All-cons IsVisible (digit_glyph true (b % 16)) [] (glyph_visible (b % 16) (low_digit b)) (All-nil IsVisible)))

byte_visible : (b : ℕ) → b < 2 ^ 8 → All IsVisible (kept_or_escaped is_plain b)
byte_visible b small =
    elim (is_plain b) as (λ plain. is_plain b ≡ plain → All IsVisible (if plain then b ∷ [] else escape_of b)) [
      | true ↦ λ is. All-cons IsVisible b [] (plain_low b is, plain_high b is) (All-nil IsVisible)
      | false ↦ λ is. escape_visible b small
    ] refl

bytes_visible : (text : List ℕ) → All (λ byte. byte < 2 ^ 8) text → All IsVisible (flat_map (kept_or_escaped is_plain) text)
bytes_visible [] small = All-nil IsVisible
bytes_visible (b ∷ bs) small =
    All-append IsVisible (kept_or_escaped is_plain b) (flat_map (kept_or_escaped is_plain) bs)
    (byte_visible b (All-head (λ (byte : ℕ). byte < 2 ^ 8) b bs small)) (bytes_visible bs (All-tail (λ (byte : ℕ). byte < 2 ^ 8) b bs small))

escaped_visible : (text : List ℕ) → All (λ byte. byte < 2 ^ 8) text → All IsVisible (escaped text)
unfolding escaped
escaped_visible text small = bytes_visible text small

pub shown_visible : (text : List ℕ) → All (λ byte. byte < 2 ^ 8) text → All IsVisible (shown text)
shown_visible text small =
    elim (nat_eq (length text) 0) as (λ is_empty. All IsVisible (if is_empty then codes "-" else escaped text)) [
      | true ↦ All-cons IsVisible 45 [] (lit≤ tt, lit≤ tt) (All-nil IsVisible)
      | false ↦ escaped_visible text small
    ]
