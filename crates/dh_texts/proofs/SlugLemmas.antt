-- The text of a slug, one character after another.
use Rattle.std.proofs.Common.{◌≡◌, ℕ, ◌+◌, ◌<◌, Bool, true, false, cond, List, [], ◌∷◌, ◌++◌, length, get_or, take, drop, map, refl, ap, sym, subst, ◌∙◌, arith}
use Rattle.std.proofs.lemmas.List.{map-append, take_more, take-append-drop}
use Rattle.dh_texts.specs.Texts.{is_lower_or_digit}
use Rattle.dh_texts.specs.SlugOfName.{slug_char, from_letter, with_byte}

begins : (b : ℕ) (t : Bool) → is_lower_or_digit b ≡ t → from_letter (b ∷ []) ≡ with_byte [] b
begins b true e = rw e refl
begins b false e = rw e refl

from_letter-push : (cs : List ℕ) (b : ℕ) → from_letter (cs ++ b ∷ []) ≡ with_byte (from_letter cs) b
from_letter-push [] b = begins b (is_lower_or_digit b) refl
from_letter-push (c ∷ cs) b =
    elim (is_lower_or_digit c) as (λ t. cond t (c ∷ cs ++ b ∷ []) (from_letter (cs ++ b ∷ [])) ≡ with_byte (cond t (c ∷ cs) (from_letter cs)) b) [
      | true ↦ refl
      | false ↦ from_letter-push cs b
    ]

pub slug_more : (old new : List ℕ) (cs : List ℕ) (c : ℕ) → old ≡ from_letter (map slug_char cs) → new ≡ with_byte old (slug_char c) → new ≡ from_letter (map slug_char (cs ++ c ∷ []))
slug_more old new cs c before step =
    step ∙ ap (λ t. with_byte t (slug_char c)) before ∙ sym (from_letter-push (map slug_char cs) (slug_char c)) ∙ ap from_letter (sym (map-append slug_char cs (c ∷ [])))

-- a letter or digit stays, whatever follows
from_letter-some : (bs more : List ℕ) → 0 < length (from_letter bs) → 0 < length (from_letter (bs ++ more))
from_letter-some [] more h = absurd (omega arith)
from_letter-some (b ∷ bs) more h =
    elim (is_lower_or_digit b) as (λ t. 0 < length (cond t (b ∷ bs) (from_letter bs)) → 0 < length (cond t (b ∷ bs ++ more) (from_letter (bs ++ more)))) [
      | true ↦ λ _. omega arith
      | false ↦ λ some. from_letter-some bs more some
    ] h

-- a byte that the text of the slug has after the first characters, it has after all
pub slug_some : (old cs all : List ℕ) (c b : ℕ) → old ≡ from_letter (map slug_char cs) → b ≡ slug_char c → cs ≡ take (length cs) all → length cs < length all → c ≡ get_or all (length cs) c → 0 < length (with_byte old b) → 0 < length (from_letter (map slug_char all))
slug_some old cs all c b before byte front inside here some =
    let read : cs ++ c ∷ [] ≡ take (length cs + 1) all =
    ap (λ xs. xs ++ c ∷ []) front ∙ ap (λ x. take (length cs) all ++ x ∷ []) here ∙ sym (take_more all (length cs) c inside) in
    let grown : with_byte old b ≡ from_letter (map slug_char (take (length cs + 1) all)) =
    slug_more old (with_byte old b) cs c before (ap (with_byte old) byte) ∙ ap (λ xs. from_letter (map slug_char xs)) read in
    let begun : 0 < length (from_letter (map slug_char (take (length cs + 1) all))) = subst (λ (bs : List ℕ). 0 < length bs) grown some in
    let whole : map slug_char (take (length cs + 1) all) ++ map slug_char (drop (length cs + 1) all) ≡ map slug_char all =
    sym (map-append slug_char (take (length cs + 1) all) (drop (length cs + 1) all)) ∙ ap (map slug_char) (take-append-drop (length cs + 1) all) in
    subst (λ (bs : List ℕ). 0 < length (from_letter bs)) whole (from_letter-some (map slug_char (take (length cs + 1) all)) (map slug_char (drop (length cs + 1) all)) begun)
