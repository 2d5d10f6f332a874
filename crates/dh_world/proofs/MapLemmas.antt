-- Equal texts, and look-ups in maps by texts.
use Rattle.std.proofs.Common.{◌≡◌, ℕ, Bool, true, false, ◌&&◌, cond, List, [], ◌∷◌, map, filter, Some, refl, sym, ap, ◌∙◌, Ordering, Less, Equal, Greater, nat_cmp}
use Rattle.std.specs.Prelude.{option_map}
use Rattle.std.specs.List.{find}
use Rattle.std.specs.Str.{bytes_eq}
use Rattle.std.specs.Bool.{one_answer}
use Rattle.std.specs.Ordering.{eq_by_cmp, is_eq, ordering_then}
use Rattle.std.specs.Cmp.{IsTotalOrder, Equal-is, nat_cmp_total}
use Rattle.std.specs.FinMap.{IsAntisymmetric, get, insert, get-insert, same_map}
use Rattle.std.specs.FinMap as finite
use Rattle.std.proofs.lemmas.Cmp.{nat_list_cmp_total, on_total, then_total, tied_itself}
use Rattle.std.proofs.lemmas.Map.Lookups.{exact_bytes, exact_pairs, exact_unsigned}
use Rattle.std.proofs.lemmas.Map.Text.{is_eq-slice_cmp}
use Rattle.std.proofs.lemmas.Slice.Eq.{bytes_eq-Decides}
use Rattle.dh_world.specs.World.{Text, text_cmp, pair_cmp, PageKey, page_cmp, HeldKey, held_cmp, UsedKey, used_cmp, Project, World}

-- ---- equal texts

turned : (a b : List ℕ) → bytes_eq a b ≡ bytes_eq b a
turned a b = one_answer _ _ (bytes_eq-Decides a b) ((λ e. sym ((bytes_eq-Decides b a).0 e)), (λ e. (bytes_eq-Decides b a).1 (sym e)))

-- a text ties with another that has its bytes
pub tied_text : (q x : Text) → eq_by_cmp text_cmp q x ≡ bytes_eq x q
tied_text q x = is_eq-slice_cmp q x ∙ turned q x

pub text_total : IsTotalOrder text_cmp
text_total = nat_list_cmp_total

pub page_total : IsTotalOrder page_cmp
page_total = then_total (on_total (λ (k : PageKey). k.0) text_total) (then_total (on_total (λ (k : PageKey). k.1.0) text_total) (on_total (λ (k : PageKey). k.1.1) text_total))

pub tied_pair : {A B : Type 0} (first : A → A → Ordering) (second : B → B → Ordering) (x y : A × B) → eq_by_cmp (pair_cmp first second) x y ≡ (eq_by_cmp first x.0 y.0 && eq_by_cmp second x.1 y.1)
tied_pair first second x y = go (first x.0 y.0)
  where
    go : (o : Ordering) → is_eq (ordering_then o (second x.1 y.1)) ≡ (is_eq o && eq_by_cmp second x.1 y.1)
    go Less = refl
    go Equal = refl
    go Greater = refl

pub tied_page : (slug lang path : Text) (k : PageKey) → eq_by_cmp page_cmp (slug, (lang, path)) k ≡ (bytes_eq k.0 slug && (bytes_eq k.1.0 lang && bytes_eq k.1.1 path))
tied_page slug lang path k =
    tied_pair text_cmp (pair_cmp text_cmp text_cmp) (slug, (lang, path)) k
    ∙ rw (tied_pair text_cmp text_cmp (lang, path) k.1, tied_text slug k.0, tied_text lang k.1.0, tied_text path k.1.1) refl

pub held_total : IsTotalOrder held_cmp
held_total = then_total (on_total (λ (k : HeldKey). k.0) text_total) (on_total (λ (k : HeldKey). k.1) text_total)

pub held_exact : IsAntisymmetric held_cmp
held_exact = exact_pairs text_cmp text_cmp exact_bytes exact_bytes

pub used_total : IsTotalOrder used_cmp
used_total = then_total (on_total (λ (k : UsedKey). k.0) text_total) (then_total (on_total (λ (k : UsedKey). k.1.0) nat_cmp_total) (on_total (λ (k : UsedKey). k.1.1) text_total))

pub used_exact : IsAntisymmetric used_cmp
used_exact = exact_pairs text_cmp (pair_cmp nat_cmp text_cmp) exact_bytes (exact_pairs nat_cmp text_cmp exact_unsigned exact_bytes)

pub tied_held : (pass slug : Text) (k : HeldKey) → eq_by_cmp held_cmp (pass, slug) k ≡ (bytes_eq k.0 pass && bytes_eq k.1 slug)
tied_held pass slug k = tied_pair text_cmp text_cmp (pass, slug) k ∙ rw (tied_text pass k.0, tied_text slug k.1) refl

pub page_exact : IsAntisymmetric page_cmp
page_exact = exact_pairs text_cmp (pair_cmp text_cmp text_cmp) exact_bytes (exact_pairs text_cmp text_cmp exact_bytes exact_bytes)

-- ---- look-ups in maps that are made of lists

pub found_in : {A K X : Type 0} (R : K → K → Ordering) (key : A → K) (value : A → X) (q : K) (test : A → Bool) → ((a : A) → eq_by_cmp R q (key a) ≡ test a) → (rows : List A)
    → finite.find R q (map (λ a. (key a, value a)) rows) ≡ option_map value (find test rows)
found_in R key value q test same [] = refl
found_in R key value q test same (a ∷ rows) = rw (same a) (go (test a) (found_in R key value q test same rows))
  where
    go : (b : Bool) → finite.find R q (map (λ a. (key a, value a)) rows) ≡ option_map value (find test rows) → cond b (Some (value a)) (finite.find R q (map (λ a. (key a, value a)) rows)) ≡ option_map value (cond b (Some a) (find test rows))
    go true more = refl
    go false more = more

pub find_in_filter : {A : Type 0} (p q : A → Bool) (rows : List A) → find q (filter p rows) ≡ find (λ a. p a && q a) rows
find_in_filter p q [] = refl
find_in_filter p q (a ∷ rows) = go (p a) (q a) refl (find_in_filter p q rows)
  where
    go : (b d : Bool) → q a ≡ d → find q (filter p rows) ≡ find (λ a. p a && q a) rows → find q (cond b (a ∷ filter p rows) (filter p rows)) ≡ cond (b && d) (Some a) (find (λ a. p a && q a) rows)
    go true true e more = rw e refl
    go true false e more = rw e more
    go false d e more = more

pub find_same : {A : Type 0} (p q : A → Bool) → ((a : A) → p a ≡ q a) → (rows : List A) → find p rows ≡ find q rows
find_same p q same [] = refl
find_same p q same (a ∷ rows) = rw (same a) (ap (λ o. cond (q a) (Some a) o) (find_same p q same rows))

-- ---- one project put back after the other

itself : (host : Text) → eq_by_cmp text_cmp host host ≡ true
itself host = ap is_eq (tied_itself text_total host)

pub get_back : (w : World) (host : Text) (p : Project) → get (insert w host p) host ≡ Some p
get_back w host p = get-insert text_total w host p host ∙ ap (λ b. cond b (Some p) (get w host)) (itself host)

-- of two projects put back under one host the second stays
pub put_twice : (w : World) (host : Text) (p q : Project) → insert (insert w host p) host q ≡ insert w host q
put_twice w host p q = same_map text_total exact_bytes _ _ (λ name. get-insert text_total (insert w host p) host q name ∙ go name (eq_by_cmp text_cmp name host) refl ∙ sym (get-insert text_total w host q name))
  where
    go : (name : Text) (b : Bool) → eq_by_cmp text_cmp name host ≡ b → cond (eq_by_cmp text_cmp name host) (Some q) (get (insert w host p) name) ≡ cond (eq_by_cmp text_cmp name host) (Some q) (get w name)
    go name true e = rw e refl
    go name false e = rw e (get-insert text_total w host p name ∙ rw e refl)

-- a project put back as it is changes nothing
pub put_same : (w : World) (host : Text) (p : Project) → get w host ≡ Some p → insert w host p ≡ w
put_same w host p was = same_map text_total exact_bytes _ _ (λ name. get-insert text_total w host p name ∙ go name (eq_by_cmp text_cmp name host) refl)
  where
    go : (name : Text) (b : Bool) → eq_by_cmp text_cmp name host ≡ b → cond b (Some p) (get w name) ≡ get w name
    go name true e = sym was ∙ ap (get w) (sym (exact_bytes name host ((Equal-is (text_cmp name host)).0 e)))
    go name false e = refl
