-- The fields of a name, one field after another.
use Rattle.std.proofs.Common.{◌≡◌, ℕ, ◌+◌, ◌<◌, Bool, true, false, List, [], ◌∷◌, ◌++◌, length, take, get_or, map, cond, Option, refl, ap, sym, ◌∙◌}
use Rattle.std.specs.List.{filter}
use Rattle.std.proofs.lemmas.List.{take_more, map-append, append-nil}
use Rattle.std.proofs.lemmas.List.Elements.{filter-append}
use Rattle.dh_requests.specs.Fields.{NameAndValue, is_named, values_named, at_most_one, one_more}

values-append : (name : List ℕ) (xs ys : List NameAndValue) → values_named name (xs ++ ys) ≡ values_named name xs ++ values_named name ys
values-append name xs ys = ap (map (λ (h : NameAndValue). h.1)) (filter-append (is_named name) xs ys) ∙ map-append (λ (h : NameAndValue). h.1) (filter (is_named name) xs) (filter (is_named name) ys)

values_one : (name : List ℕ) (h : NameAndValue) (b : Bool) → is_named name h ≡ b → values_named name (h ∷ []) ≡ cond b (h.1 ∷ []) []
values_one name h true e = ap (λ b. map (λ (h : NameAndValue). h.1) (cond b (h ∷ []) [])) e
values_one name h false e = ap (λ b. map (λ (h : NameAndValue). h.1) (cond b (h ∷ []) [])) e

values_more : {H : Type 0} (name : List ℕ) (f : H → NameAndValue) (hs : List H) (i : ℕ) (d : H) (b : Bool) → i < length hs → is_named name (f (get_or hs i d)) ≡ b → values_named name (map f (take (i + 1) hs)) ≡ values_named name (map f (take i hs)) ++ cond b ((f (get_or hs i d)).1 ∷ []) []
values_more name f hs i d b lt e =
    ap (λ w. values_named name (map f w)) (take_more hs i d lt)
    ∙ ap (values_named name) (map-append f (take i hs) (get_or hs i d ∷ []))
    ∙ values-append name (map f (take i hs)) (f (get_or hs i d) ∷ [])
    ∙ ap (λ w. values_named name (map f (take i hs)) ++ w) (values_one name (f (get_or hs i d)) b e)

at_most_one-append : (values : List (List ℕ)) (value : List ℕ) → at_most_one (values ++ value ∷ []) ≡ one_more (at_most_one values) value
at_most_one-append [] value = refl
at_most_one-append (v ∷ []) value = refl
at_most_one-append (v ∷ w ∷ values) value = refl

-- a field with the name
pub line_more : {H : Type 0} (name : List ℕ) (f : H → NameAndValue) (hs : List H) (i : ℕ) (d : H) (old : Option (Option (List ℕ))) → i < length hs → is_named name (f (get_or hs i d)) ≡ true → old ≡ at_most_one (values_named name (map f (take i hs))) → one_more old (f (get_or hs i d)).1 ≡ at_most_one (values_named name (map f (take (i + 1) hs)))
line_more name f hs i d old lt e h =
    let values : List (List ℕ) = values_named name (map f (take i hs)) in
    ap (λ o. one_more o (f (get_or hs i d)).1) h ∙ sym (at_most_one-append values (f (get_or hs i d)).1) ∙ ap at_most_one (sym (values_more name f hs i d true lt e))

-- a field with another name
pub line_less : {H : Type 0} (name : List ℕ) (f : H → NameAndValue) (hs : List H) (i : ℕ) (d : H) (old : Option (Option (List ℕ))) → i < length hs → is_named name (f (get_or hs i d)) ≡ false → old ≡ at_most_one (values_named name (map f (take i hs))) → old ≡ at_most_one (values_named name (map f (take (i + 1) hs)))
line_less name f hs i d old lt e h =
    let values : List (List ℕ) = values_named name (map f (take i hs)) in
    h ∙ ap at_most_one (sym (values_more name f hs i d false lt e ∙ append-nil values))
