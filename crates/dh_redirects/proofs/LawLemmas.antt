-- What `filled` is, from the left.
use Rattle.std.proofs.Common.{◌≡◌, ℕ, true, false, cond, ◌==◌, List, [], ◌∷◌, ◌++◌, length, drop, codes, nat_eq, refl, sym, ap, ◌∙◌, append_assoc}
use Rattle.std.specs.List.{starts_with, onto_first, flat_map}
use Rattle.std.proofs.lemmas.Bool.Decides.{Decides-eqb}
use Rattle.dh_texts.specs.Escapes.{escaped}
use Rattle.dh_redirects.specs.Locations.{sent, sent_byte, after_colon, target_joined, colon_parts, filled}
use Rattle.dh_redirects.proofs.TextLemmas.{starts_front, starts_from}

-- the first part of a text, and what follows it
record Parted (text : List ℕ) : Type 0 where
  first : List ℕ
  others : List (List ℕ)
  rest : List ℕ
  parts : colon_parts text ≡ first ∷ others
  front : text ≡ first ++ rest

parted : (text : List ℕ) → Parted text
parted [] = record { first = []; others = []; rest = []; parts = refl; front = refl }
parted (x ∷ xs) =
    let more = parted xs in
    elim (x == 58) as (λ v. (x == 58) ≡ v → Parted (x ∷ xs)) [
      | true ↦ λ e. record { first = []; others = colon_parts xs; rest = x ∷ xs; parts = rw e refl; front = refl }
      | false ↦ λ e. record { first = x ∷ more.first; others = more.others; rest = more.rest; parts = rw (e, more.parts) refl; front = ap (λ ys. x ∷ ys) more.front }
    ] refl

pub filled-end : (rest : List ℕ) → filled rest [] ≡ []
unfolding filled sent
filled-end rest = refl

pub filled-splat : (rest text : List ℕ) → filled rest (codes ":splat" ++ text) ≡ escaped rest ++ filled rest text
unfolding filled sent
filled-splat rest text =
    let cut = parted text in
    rw cut.parts (append_assoc (escaped rest) (sent cut.first) (flat_map (after_colon (escaped rest)) cut.others))

no_splat : (text first rest : List ℕ) → text ≡ first ++ rest → starts_with nat_eq (58 ∷ text) (codes ":splat") ≡ false → starts_with nat_eq first (codes "splat") ≡ false
no_splat text first rest front h =
    elim (starts_with nat_eq first (codes "splat")) as (λ v. starts_with nat_eq first (codes "splat") ≡ v → v ≡ false) [
      | true ↦ λ e.
          let tail = drop (length (codes "splat")) first in
          let begins : first ≡ codes "splat" ++ tail = starts_front first (codes "splat") e in
          let whole : 58 ∷ text ≡ codes ":splat" ++ (tail ++ rest) = ap (λ ys. 58 ∷ ys) (front ∙ ap (λ ys. ys ++ rest) begins) in
          sym (starts_from (58 ∷ text) (codes ":splat") (tail ++ rest) whole) ∙ h
      | false ↦ λ _. refl
    ] refl

pub filled-byte : (byte : ℕ) (rest text : List ℕ) → starts_with nat_eq (byte ∷ text) (codes ":splat") ≡ false → filled rest (byte ∷ text) ≡ sent_byte byte ++ filled rest text
unfolding filled sent
filled-byte byte rest text h =
    let cut = parted text in
    elim (byte == 58) as (λ v. (byte == 58) ≡ v → target_joined (escaped rest) (cond v ([] ∷ colon_parts text) (onto_first byte (colon_parts text))) ≡ sent_byte byte ++ target_joined (escaped rest) (colon_parts text)) [
      | true ↦ λ e.
          let colon : byte ≡ 58 = (Decides-eqb byte 58).0 e in
          let none : starts_with nat_eq cut.first (codes "splat") ≡ false = no_splat text cut.first cut.rest cut.front (rw colon at h) in
          rw (cut.parts, none, colon) (append_assoc (sent_byte 58) (sent cut.first) (flat_map (after_colon (escaped rest)) cut.others))
      | false ↦ λ e. rw cut.parts (append_assoc (sent_byte byte) (sent cut.first) (flat_map (after_colon (escaped rest)) cut.others))
    ] refl
