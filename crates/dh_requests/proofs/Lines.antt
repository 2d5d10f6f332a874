-- The search byte by byte finds the end that the lines have.
use Rattle.std.proofs.Common.{◌≡◌, ℕ, ◌+◌, Bool, true, false, cond, eqb, List, [], ◌∷◌, ◌++◌, length, length-append, Option, Some, None, refl, arith, append_assoc, append-nil, ap, sym, subst, ◌∙◌}
use Rattle.std.specs.Option.{option_map}
use Rattle.std.proofs.lemmas.Bool.Decides.{nat_tests}
use Rattle.dh_requests.specs.declared.head_end.Place.{Place}
use Rattle.dh_requests.specs.declared.head_end.Place.TheVariants.{Start, Return, Inside}
use Rattle.dh_requests.specs.declared.head_end.Scan.{Scan}
use Rattle.dh_requests.specs.HeadEnd.{onto_first, lines_of, is_empty_line, HeadSize, with_line, size_to_empty, head_size}
use Rattle.dh_requests.specs.Scan.{place_after, ends_empty, size_behind, end_from, at_first}

-- where the search stands behind the first bytes of a line
abbrev place_of : List ℕ → Place
place_of [] = Start
place_of (b ∷ []) = cond (eqb b 13) Return Inside
place_of (a ∷ b ∷ p) = Inside

-- after so many lines, and the first bytes of the next
abbrev at : ℕ → List ℕ → Scan
at n p = record { lines = n; place = place_of p }

-- bytes in front of the first line, where there is one
abbrev lead : List ℕ → List (List ℕ) → List (List ℕ)
lead p [] = []
lead p (line ∷ lines) = (p ++ line) ∷ lines

abbrev pub sized : ℕ → ℕ → HeadSize
sized b l = record { bytes = b; lines = l }

abbrev counted : ℕ → HeadSize → HeadSize
counted n size = sized size.bytes (n + size.lines)

lead_none : (ls : List (List ℕ)) → lead [] ls ≡ ls
lead_none [] = refl
lead_none (l ∷ ls) = refl

lead_first : (p : List ℕ) (b : ℕ) (ls : List (List ℕ)) → lead p (onto_first b ls) ≡ lead (p ++ b ∷ []) ls
lead_first p b [] = refl
lead_first p b (l ∷ ls) = ap (λ w. w ∷ ls) (sym (append_assoc p (b ∷ []) l))

empty_at : (p : List ℕ) → ends_empty (place_of p) ≡ is_empty_line p
empty_at [] = refl
empty_at (b ∷ []) = elim (eqb b 13) as (λ v. ends_empty (cond v Return Inside) ≡ v) [ true ↦ refl | false ↦ refl ]
empty_at (a ∷ b ∷ p) = refl

place_on : (p : List ℕ) (b : ℕ) → place_after (place_of p) b ≡ place_of (p ++ b ∷ [])
place_on [] b = refl
place_on (a ∷ []) b = elim (eqb a 13) as (λ v. place_after (cond v Return Inside) b ≡ Inside) [ true ↦ refl | false ↦ refl ]
place_on (a ∷ c ∷ p) b = refl

same_size : (a b c d : ℕ) → a ≡ b → c ≡ d → sized a c ≡ sized b d
same_size a b c d e f = ap (λ k. sized k c) e ∙ ap (λ k. sized b k) f

pub behind_twice : (o : Option HeadSize) (n m k : ℕ) → m + n ≡ k → option_map (size_behind n) (option_map (size_behind m) o) ≡ option_map (size_behind k) o
behind_twice None n m k e = refl
behind_twice (Some s) n m k e = ap Some (same_size (s.bytes + m + n) (s.bytes + k) s.lines s.lines (omega (arith, e)) refl)

pub behind_none : (o : Option HeadSize) → option_map (size_behind 0) o ≡ o
behind_none None = refl
behind_none (Some s) = ap Some (same_size (s.bytes + 0) s.bytes s.lines s.lines (omega arith) refl)

-- a line behind the first bytes of it
line_behind : (o : Option HeadSize) (p : List ℕ) (n k : ℕ) → option_map (size_behind (length p)) (option_map (size_behind 1) (option_map (counted (n + k)) o)) ≡ option_map (counted n) (option_map (with_line p k) o)
line_behind None p n k = refl
line_behind (Some s) p n k = ap Some (same_size (s.bytes + 1 + length p) (length p + 1 + s.bytes) (n + k + s.lines) (n + (k + s.lines)) (omega arith) (omega arith))

counted_none : (o : Option HeadSize) → option_map (counted 0) o ≡ o
counted_none None = refl
counted_none (Some s) = ap Some (same_size s.bytes s.bytes (0 + s.lines) s.lines refl (omega arith))

-- what the search says behind some lines and the first bytes of the next
abbrev FindsBehind : ℕ → List ℕ → List ℕ → Type 0
FindsBehind n p bs = option_map (size_behind (length p)) (end_from (at n p) bs) ≡ option_map (counted n) (size_to_empty (lead p (lines_of bs)))

-- the same before the first line
abbrev FindsFirst : List ℕ → List ℕ → Type 0
FindsFirst p bs = option_map (size_behind (length p)) (end_from (at 0 p) bs) ≡ head_size (lead p (lines_of bs))

plain : (n : ℕ) (bs : List ℕ) → FindsBehind n [] bs → end_from (at n []) bs ≡ option_map (counted n) (size_to_empty (lines_of bs))
plain n bs h = sym (behind_none (end_from (at n []) bs)) ∙ h ∙ ap (λ ls. option_map (counted n) (size_to_empty ls)) (lead_none (lines_of bs))

-- an LF
line_ends : (n : ℕ) (p bs : List ℕ) (e : Bool) → eqb n 0 ≡ false → is_empty_line p ≡ e → FindsBehind (n + 1) [] bs → FindsBehind n p (10 ∷ bs)
line_ends n p bs true h e k =
    let len : 1 + length p ≡ length p + 1 = omega arith in
    rw (append-nil p, empty_at p, e, h) (ap Some (same_size (1 + length p) (length p + 1) n (n + 0) len (omega arith)))
line_ends n p bs false h e k =
    rw (append-nil p, empty_at p, e) (ap (λ o. option_map (size_behind (length p)) (option_map (size_behind 1) o)) (plain (n + 1) bs k) ∙ line_behind (size_to_empty (lines_of bs)) p n 1)

-- a byte within a line
byte_in : (n : ℕ) (p bs : List ℕ) (b : ℕ) → eqb b 10 ≡ false → FindsBehind n (p ++ b ∷ []) bs → FindsBehind n p (b ∷ bs)
byte_in n p bs b e k =
    let len : 1 + length p ≡ length (p ++ b ∷ []) = omega (arith, length-append p (b ∷ [])) in
    rw (e, place_on p b) (behind_twice (end_from (at n (p ++ b ∷ [])) bs) (length p) 1 (length (p ++ b ∷ [])) len ∙ k
    ∙ ap (λ ls. option_map (counted n) (size_to_empty ls)) (sym (lead_first p b (lines_of bs))))

byte_finds : (n : ℕ) (p bs : List ℕ) (b : ℕ) (c : Bool) → eqb b 10 ≡ c → eqb n 0 ≡ false → FindsBehind (n + 1) [] bs → FindsBehind n (p ++ b ∷ []) bs → FindsBehind n p (b ∷ bs)
byte_finds n p bs b true e h k m =
    let ten : 10 ≡ b = grind (arith, nat_tests) in
    subst (λ x. FindsBehind n p (x ∷ bs)) ten (line_ends n p bs (is_empty_line p) h refl k)
byte_finds n p bs b false e h k m = byte_in n p bs b e m

later : (n : ℕ) → eqb (n + 1) 0 ≡ false
later n = grind (arith, nat_tests)

finds : (n : ℕ) (p bs : List ℕ) → eqb n 0 ≡ false → FindsBehind n p bs
finds n p [] h = refl
finds n p (b ∷ bs) h = byte_finds n p bs b (eqb b 10) refl h (finds (n + 1) [] bs (later n)) (finds n (p ++ b ∷ []) bs h)

plain_first : (bs : List ℕ) → FindsFirst [] bs → end_from (at 0 []) bs ≡ head_size (lines_of bs)
plain_first bs h = sym (behind_none (end_from (at 0 []) bs)) ∙ h ∙ ap head_size (lead_none (lines_of bs))

-- an LF behind an empty line, or behind the request line
first_ends : (p bs : List ℕ) (e : Bool) → is_empty_line p ≡ e → FindsFirst [] bs → FindsFirst p (10 ∷ bs)
first_ends p bs true e k =
    rw (append-nil p, empty_at p, e) (ap (λ o. option_map (size_behind (length p)) (option_map (size_behind 1) o)) (plain_first bs k ∙ sym (counted_none (head_size (lines_of bs))))
    ∙ line_behind (head_size (lines_of bs)) p 0 0 ∙ counted_none (option_map (with_line p 0) (head_size (lines_of bs))))
first_ends p bs false e k =
    rw (append-nil p, empty_at p, e) (ap (λ o. option_map (size_behind (length p)) (option_map (size_behind 1) o)) (plain 1 bs (finds 1 [] bs refl))
    ∙ line_behind (size_to_empty (lines_of bs)) p 0 1 ∙ counted_none (option_map (with_line p 1) (size_to_empty (lines_of bs))))

first_in : (p bs : List ℕ) (b : ℕ) → eqb b 10 ≡ false → FindsFirst (p ++ b ∷ []) bs → FindsFirst p (b ∷ bs)
first_in p bs b e k =
    let len : 1 + length p ≡ length (p ++ b ∷ []) = omega (arith, length-append p (b ∷ [])) in
    rw (e, place_on p b) (behind_twice (end_from (at 0 (p ++ b ∷ [])) bs) (length p) 1 (length (p ++ b ∷ [])) len ∙ k
    ∙ ap head_size (sym (lead_first p b (lines_of bs))))

first_byte : (p bs : List ℕ) (b : ℕ) (c : Bool) → eqb b 10 ≡ c → FindsFirst [] bs → FindsFirst (p ++ b ∷ []) bs → FindsFirst p (b ∷ bs)
first_byte p bs b true e k m =
    let ten : 10 ≡ b = grind (arith, nat_tests) in
    subst (λ x. FindsFirst p (x ∷ bs)) ten (first_ends p bs (is_empty_line p) refl k)
first_byte p bs b false e k m = first_in p bs b e m

finds_first : (p bs : List ℕ) → FindsFirst p bs
finds_first p [] = refl
finds_first p (b ∷ bs) = first_byte p bs b (eqb b 10) refl (finds_first [] bs) (finds_first (p ++ b ∷ []) bs)

-- the search from the front finds the size of the head that the lines have
pub end_from-first : (text : List ℕ) → end_from at_first text ≡ head_size (lines_of text)
end_from-first text = plain_first text (finds_first [] text)

pub unsome : (s t : HeadSize) → Some s ≡ Some t → s ≡ t
unsome s t e =
    let size : Option HeadSize → HeadSize = λ o. elim o [ Some r ↦ r | None ↦ s ] in
    ap size e
