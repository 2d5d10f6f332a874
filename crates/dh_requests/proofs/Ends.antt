-- Where the head of a request ends, however its bytes came.
use Rattle.std.proofs.Common.{◌≡◌, ◌≢◌, ℕ, ◌+◌, ◌-◌, ◌≤◌, ◌<◌, suc, min, true, false, cond, leb, List, [], ◌∷◌, ◌++◌, length, length-append, length-drop, take, drop, get_or, Bool, Option, Some, None, IfSome, refl, add-one, arith, append_assoc, append-nil, ap, sym, subst, ◌∙◌, drop-cons}
use Rattle.std.specs.Option.{option_map}
use Rattle.std.specs.Io.KnownBytes.{Consumes}
use Rattle.std.proofs.Math.Seq.{take-add}
use Rattle.std.proofs.lemmas.List.{take-append-le, take-append-drop, take_all, length-take-le}
use Rattle.std.proofs.lemmas.Bool.Decides.{nat_tests}
use Rattle.dh_requests.specs.declared.head_end.HeadEnd.TheVariants.{At, TooLarge, CutShort}
use Rattle.dh_requests.specs.declared.head_end.Scan.{Scan}
use Rattle.dh_ports.specs.Reading.{AddsSome}
use Rattle.dh_ports.proofs.Taking.{takes_more}
use Rattle.dh_requests.specs.HeadEnd.{HeadSize, head_end_in, head_end_of, EndsHead}
use Rattle.dh_requests.specs.Scan.{after_byte, end_from, ended_or, size_behind, at_first, ScansTo}
use Rattle.dh_requests.proofs.Lines.{end_from-first, sized, behind_twice, unsome}

-- the byte at which the search ends
pub found_here : (first now : Scan) (bytes : List ℕ) (i : ℕ) → i < length bytes → ScansTo first (take i bytes) i now → None ≡ after_byte now (get_or bytes i 0) → end_from first bytes ≡ Some (sized (i + 1) now.lines)
found_here first now bytes i lt h e =
    let whole : take i bytes ++ drop i bytes ≡ bytes = take-append-drop i bytes in
    let front : drop i bytes ≡ get_or bytes i 0 ∷ drop (suc i) bytes = drop-cons bytes i 0 lt in
    let count : 1 + i ≡ i + 1 = omega arith in
    ap (end_from first) (sym whole)
    ∙ h (drop i bytes)
    ∙ ap (λ d. option_map (size_behind i) (end_from now d)) front
    ∙ ap (λ o. option_map (size_behind i) (ended_or o now.lines (λ s. end_from s (drop (suc i) bytes)))) (sym e)
    ∙ ap (λ k. Some (sized k now.lines)) count

-- an end stays where it is, whatever follows
map_stays : (o p : Option HeadSize) (n : HeadSize) → ((k : HeadSize) → o ≡ Some k → p ≡ Some k) → option_map (size_behind 1) o ≡ Some n → option_map (size_behind 1) p ≡ Some n
map_stays None p n h e = cc
map_stays (Some k) p n h e = ap (option_map (size_behind 1)) (h k refl) ∙ e

found_stays : (o : Option Scan) (l : ℕ) (f g : Scan → Option HeadSize) (n : HeadSize) → ((s : Scan) (k : HeadSize) → f s ≡ Some k → g s ≡ Some k) → ended_or o l f ≡ Some n → ended_or o l g ≡ Some n
found_stays None l f g n h e = e
found_stays (Some s) l f g n h e = map_stays (f s) (g s) n (h s) e

pub end_stays : (scan : Scan) (bytes more : List ℕ) (n : HeadSize) → end_from scan bytes ≡ Some n → end_from scan (bytes ++ more) ≡ Some n
end_stays scan [] more n e = cc
end_stays scan (b ∷ bytes) more n e =
    found_stays (after_byte scan b) scan.lines (λ s. end_from s bytes) (λ s. end_from s (bytes ++ more)) n (λ s k. end_stays s bytes more k) e

-- what was searched without an end has none
pub no_end : (first now : Scan) (bytes : List ℕ) (n : ℕ) → ScansTo first bytes n now → end_from first bytes ≡ None
no_end first now bytes n h = ap (end_from first) (sym (append-nil bytes)) ∙ h []

-- two pieces, one after the other
pub scans_on : (a b c : Scan) (xs ys : List ℕ) (n m : ℕ) → ScansTo a xs n b → ScansTo b ys m c → ScansTo a (xs ++ ys) (n + m) c
scans_on a b c xs ys n m h k more =
    ap (end_from a) (append_assoc xs ys more) ∙ h (ys ++ more) ∙ ap (option_map (size_behind n)) (k more) ∙ behind_twice (end_from c more) n m (n + m) (omega arith)

-- the first bytes of the input are those that came, as far as they go
pub window : (limit : ℕ) (came rest : List ℕ) → (more : List ℕ) × (take limit (came ++ rest) ≡ take (min (length came) limit) came ++ more)
window limit came rest =
    let m : ℕ = min (length came) limit in
    let split : m + (limit - m) ≡ limit = omega arith in
    let within : m ≤ length came = omega arith in (
      take (limit - m) (drop m (came ++ rest)),
      ap (λ n. take n (came ++ rest)) (sym split) ∙ take-add m (limit - m) (came ++ rest)
          ∙ ap (λ front. front ++ take (limit - m) (drop m (came ++ rest))) (take-append-le m came rest within),
    )

-- the end by the search, of which the first 16,384 bytes are looked at
pub head_end_of-search : (input : List ℕ) → head_end_of input ≡ head_end_in (end_from at_first (take 16384 input)) (length input)
head_end_of-search input = ap (λ o. head_end_in o (length input)) (sym (end_from-first (take 16384 input)))

too_long_at : (buf rest : List ℕ) → 16384 ≤ length buf → end_from at_first (take 16384 buf) ≡ None → TooLarge ≡ head_end_of (buf ++ rest)
too_long_at buf rest le h =
    let front : take 16384 (buf ++ rest) ≡ take 16384 buf = take-append-le 16384 buf rest le in
    let far : leb 16384 (length (buf ++ rest)) ≡ true = grind (arith, nat_tests, length-append {A = ℕ}) in
    sym (head_end_of-search (buf ++ rest)
    ∙ ap (λ w. head_end_in (end_from at_first w) (length (buf ++ rest))) front
    ∙ ap (λ o. head_end_in o (length (buf ++ rest))) h
    ∙ ap (λ b. cond b TooLarge CutShort) far)

pub too_long : (old new : Option (List ℕ)) (buf : List ℕ) (seen : ℕ) (scan : Scan) → seen ≡ min (length buf) 16384 → seen ≡ 16384 → Consumes old new buf → ScansTo at_first (take seen buf) seen scan → IfSome old (λ input. TooLarge ≡ head_end_of input)
too_long None new buf seen scan e f p h = tt
too_long (Some x) None buf seen scan e f p h = absurd p
too_long (Some x) (Some y) buf seen scan e f p h =
    let le : 16384 ≤ length buf = omega arith in
    let none : end_from at_first (take 16384 buf) ≡ None = ap (λ n. end_from at_first (take n buf)) (sym f) ∙ no_end at_first scan (take seen buf) seen h in
    too_long_at buf y le none ∙ ap head_end_of (sym p)

cut_short_at : (buf : List ℕ) → length buf < 16384 → end_from at_first buf ≡ None → CutShort ≡ head_end_of buf
cut_short_at buf lt h =
    let front : take 16384 buf ≡ buf = take_all 16384 buf (omega arith) in
    let near : leb 16384 (length buf) ≡ false = grind (arith, nat_tests) in
    sym (head_end_of-search buf
    ∙ ap (λ w. head_end_in (end_from at_first w) (length buf)) front
    ∙ ap (λ o. head_end_in o (length buf)) h
    ∙ ap (λ b. cond b TooLarge CutShort) near)

pub cut_short : (old mid new : Option (List ℕ)) (buf after : List ℕ) (seen : ℕ) (scan : Scan) (came : Bool) → seen ≡ min (length buf) 16384 → seen ≢ 16384 → Consumes old mid buf → ScansTo at_first (take seen buf) seen scan → AddsSome mid new buf after came → came ≡ false → IfSome old (λ input. CutShort ≡ head_end_of input)
cut_short None mid new buf after seen scan came e f p h q r = tt
cut_short (Some x) None new buf after seen scan came e f p h q r = absurd p
cut_short (Some x) (Some y) None buf after seen scan came e f p h q r = absurd q.1
cut_short (Some x) (Some y) (Some z) buf after seen scan true e f p h q r = absurd (cc)
cut_short (Some x) (Some y) (Some z) buf after seen scan false e f p h q r =
    let lt : length buf < 16384 = omega arith in
    let same : x ≡ buf = p ∙ ap (λ w. buf ++ w) (q.1 ∙ ap (λ w. w ++ z) q.3.0 ∙ q.3.1) ∙ append-nil buf in
    let none : end_from at_first buf ≡ None = ap (end_from at_first) (sym (take_all seen buf (omega arith))) ∙ no_end at_first scan (take seen buf) seen h in
    cut_short_at buf lt none ∙ ap head_end_of (sym same)

-- with some bytes the end is as the search says
abbrev pub EndIs : Option (List ℕ) → HeadSize → Type 0
EndIs old size = IfSome old (λ input. head_end_of input ≡ head_end_in (Some size) (length input))

-- the bytes up to a limit are those seen before and the piece behind them
front_of : (buf more after piece : List ℕ) (seen limit : ℕ) → after ≡ buf ++ more → seen ≡ min (length buf) 16384 → limit ≡ min (length after) 16384 → piece ≡ take (limit - seen) (drop seen after) → take limit after ≡ take seen buf ++ piece
front_of buf more after piece seen limit is e f r =
    let longer : length after ≡ length buf + length more = ap length is ∙ length-append buf more in
    let within : seen ≤ length buf = omega arith in
    let joined : seen + (limit - seen) ≡ limit = omega arith in
    let kept : take seen after ≡ take seen buf = ap (take seen) is ∙ take-append-le seen buf more within in
    ap (λ k. take k after) (sym joined) ∙ take-add seen (limit - seen) after
    ∙ ap (λ w. w ++ take (limit - seen) (drop seen after)) kept ∙ ap (λ w. take seen buf ++ w) (sym r)

pub found_at : (old mid new : Option (List ℕ)) (buf after piece : List ℕ) (seen limit n lines : ℕ) (scan : Scan) (came : Bool) → seen ≡ min (length buf) 16384 → limit ≡ min (length after) 16384 → piece ≡ take (limit - seen) (drop seen after) → Consumes old mid buf → ScansTo at_first (take seen buf) seen scan → AddsSome mid new buf after came → end_from scan piece ≡ Some (sized n lines) → EndIs old (sized (seen + n) lines)
found_at None mid new buf after piece seen limit n lines scan came e f r p h q s = tt
found_at (Some x) None new buf after piece seen limit n lines scan came e f r p h q s = absurd p
found_at (Some x) (Some y) None buf after piece seen limit n lines scan came e f r p h q s = absurd q.1
found_at (Some x) (Some y) (Some z) buf after piece seen limit n lines scan came e f r p h q s =
    let front = front_of buf q.0 after piece seen limit q.2 e f r in
    let whole : x ≡ after ++ z = takes_more (Some x) (Some y) (Some z) buf after came p q in
    let w = window 16384 after z in
    let seen_first : take 16384 x ≡ take seen buf ++ (piece ++ w.0) =
    ap (take 16384) whole ∙ w.1 ∙ ap (λ k. take k after ++ w.0) (sym f) ∙ ap (λ v. v ++ w.0) front ∙ append_assoc (take seen buf) piece w.0 in
    let stays : end_from scan (piece ++ w.0) ≡ Some (sized n lines) = end_stays scan piece w.0 (sized n lines) s in
    let found : end_from at_first (take 16384 x) ≡ Some (sized (n + seen) lines) =
    ap (end_from at_first) seen_first ∙ h (piece ++ w.0) ∙ ap (option_map (size_behind seen)) stays in
    let swapped : n + seen ≡ seen + n = omega arith in
    head_end_of-search x ∙ ap (λ o. head_end_in o (length x)) (found ∙ ap (λ k. Some (sized k lines)) swapped)

pub few_lines : (old : Option (List ℕ)) (n lines : ℕ) → EndIs old (sized n lines) → lines ≤ 65 → IfSome old (λ input. At n ≡ head_end_of input)
few_lines None n lines e le = tt
few_lines (Some x) n lines e le =
    let test : leb lines 65 ≡ true = grind (arith, nat_tests) in
    sym (e ∙ ap (λ b. cond b (At n) TooLarge) test)

pub many_lines : (old : Option (List ℕ)) (n lines : ℕ) → EndIs old (sized n lines) → 65 < lines → IfSome old (λ input. TooLarge ≡ head_end_of input)
many_lines None n lines e lt = tt
many_lines (Some x) n lines e lt =
    let test : leb lines 65 ≡ false = grind (arith, nat_tests) in
    sym (e ∙ ap (λ b. cond b (At n) TooLarge) test)

-- the pieces so far are searched
pub scans_more : (mid new : Option (List ℕ)) (buf after piece : List ℕ) (seen limit : ℕ) (scan next : Scan) (came : Bool) → seen ≡ min (length buf) 16384 → limit ≡ min (length after) 16384 → piece ≡ take (limit - seen) (drop seen after) → ScansTo at_first (take seen buf) seen scan → AddsSome mid new buf after came → ScansTo scan piece (length piece) next → ScansTo at_first (take limit after) limit next
scans_more mid new buf after piece seen limit scan next came e f r h q s =
    let longer : length after ≡ length buf + length q.0 = ap length q.2 ∙ length-append buf q.0 in
    let front = sym (front_of buf q.0 after piece seen limit q.2 e f r) in
    let len : length piece ≡ limit - seen = ap length r ∙ length-take-le (limit - seen) (drop seen after) (omega (arith, length-drop seen after)) in
    let sum_is : seen + length piece ≡ limit = omega arith in
    let P : List ℕ → ℕ → Type 0 = λ w k. ScansTo at_first w k next in
    subst (λ w. P w limit) front (subst (λ k. P (take seen buf ++ piece) k) sum_is (scans_on at_first scan next (take seen buf) piece seen (length piece) h s))

-- there are no more lines than bytes
pub lines_more : (mid new : Option (List ℕ)) (buf after piece : List ℕ) (seen limit lines new_lines : ℕ) (came : Bool) → seen ≡ min (length buf) 16384 → limit ≡ min (length after) 16384 → piece ≡ take (limit - seen) (drop seen after) → AddsSome mid new buf after came → lines ≤ seen → new_lines ≤ lines + length piece → new_lines ≤ limit
lines_more mid new buf after piece seen limit lines new_lines came e f r q le h =
    let longer : length after ≡ length buf + length q.0 = ap length q.2 ∙ length-append buf q.0 in
    let len : length piece ≡ limit - seen = ap length r ∙ length-take-le (limit - seen) (drop seen after) (omega (arith, length-drop seen after)) in
    omega arith

cut_some : (a t : Scan) (x : ℕ) (xs : List ℕ) (p : Option HeadSize) (s : HeadSize) → after_byte a x ≡ Some t → ((k : HeadSize) → p ≡ Some k → end_from t (take k.bytes xs) ≡ Some k) → option_map (size_behind 1) p ≡ Some s → end_from a (take s.bytes (x ∷ xs)) ≡ Some s
cut_some a t x xs None s e h q = cc
cut_some a t x xs (Some k) s e h q =
    let step : take (k.bytes + 1) (x ∷ xs) ≡ x ∷ take k.bytes xs = ap (λ n. take n (x ∷ xs)) (add-one k.bytes) in
    let there : end_from a (take (k.bytes + 1) (x ∷ xs)) ≡ Some (size_behind 1 k) =
    ap (end_from a) step ∙ ap (λ o. ended_or o a.lines (λ s. end_from s (take k.bytes xs))) e ∙ ap (option_map (size_behind 1)) (h k refl) in
    subst (λ (w : HeadSize). end_from a (take w.bytes (x ∷ xs)) ≡ Some w) (unsome (size_behind 1 k) s q) there

cut_by : (a : Scan) (x : ℕ) (xs : List ℕ) (o : Option Scan) (s : HeadSize) → after_byte a x ≡ o → ((t : Scan) (k : HeadSize) → end_from t xs ≡ Some k → end_from t (take k.bytes xs) ≡ Some k) → ended_or o a.lines (λ t. end_from t xs) ≡ Some s → end_from a (take s.bytes (x ∷ xs)) ≡ Some s
cut_by a x xs None s e h q =
    subst (λ (w : HeadSize). end_from a (take w.bytes (x ∷ xs)) ≡ Some w) (unsome (sized 1 a.lines) s q) (ap (λ o. ended_or o a.lines (λ t. end_from t [])) e)
cut_by a x xs (Some t) s e h q = cut_some a t x xs (end_from t xs) s e (h t) q

-- an end is found as well where the bytes stop there
end_cut : (a : Scan) (xs : List ℕ) (s : HeadSize) → end_from a xs ≡ Some s → end_from a (take s.bytes xs) ≡ Some s
end_cut a [] s e = cc
end_cut a (x ∷ xs) s e = cut_by a x xs (after_byte a x) s refl (λ t k. end_cut t xs k) e

pub text_at : (mid new : Option (List ℕ)) (buf after piece : List ℕ) (seen limit n lines : ℕ) (scan : Scan) (came : Bool) → seen ≡ min (length buf) 16384 → limit ≡ min (length after) 16384 → piece ≡ take (limit - seen) (drop seen after) → ScansTo at_first (take seen buf) seen scan → AddsSome mid new buf after came → n ≤ length piece → end_from scan piece ≡ Some (sized n lines) → lines ≤ 65 → EndsHead (At (seen + n)) after
text_at mid new buf after piece seen limit n lines scan came e f r h q le s few =
    let longer : length after ≡ length buf + length q.0 = ap length q.2 ∙ length-append buf q.0 in
    let front = front_of buf q.0 after piece seen limit q.2 e f r in
    let len : length piece ≡ limit - seen = ap length r ∙ length-take-le (limit - seen) (drop seen after) (omega (arith, length-drop seen after)) in
    let swapped : n + seen ≡ seen + n = omega arith in
    let found : end_from at_first (take limit after) ≡ Some (sized (seen + n) lines) =
    ap (end_from at_first) front ∙ h piece ∙ ap (option_map (size_behind seen)) s ∙ ap (λ k. Some (sized k lines)) swapped in
    let size : length (take limit after) ≡ limit = length-take-le limit after (omega arith) in
    let inner : take (seen + n) after ≡ take (seen + n) (take limit after) =
    ap (take (seen + n)) (sym (take-append-drop limit after)) ∙ take-append-le (seen + n) (take limit after) (drop limit after) (omega arith) in
    let bytes : seen + n ≡ length (take (seen + n) after) = sym (length-take-le (seen + n) after (omega arith)) in (
      omega arith,
      (
        lines,
        few,
        sym (end_from-first (take (seen + n) after)) ∙ ap (end_from at_first) inner ∙ end_cut at_first (take limit after) (sized (seen + n) lines) found ∙ ap (λ k. Some (sized k lines)) bytes,
      ),
    )

-- ---- of the bytes that came alone

-- the same read from a source that has nothing else
pub alone : (mid new : Option (List ℕ)) (buf after : List ℕ) (came : Bool) → (q : AddsSome mid new buf after came) → AddsSome (Some q.0) (Some []) buf after came
alone mid new buf after true q = (q.0, sym (append-nil q.0), q.2, q.3, q.4)
alone mid new buf after false q = (q.0, sym (append-nil q.0), q.2, (q.3.0, refl), q.4)

pub too_long_alone : (buf : List ℕ) (seen : ℕ) (scan : Scan) → seen ≡ min (length buf) 16384 → seen ≡ 16384 → ScansTo at_first (take seen buf) seen scan → TooLarge ≡ head_end_of buf
too_long_alone buf seen scan e f h = too_long (Some buf) (Some []) buf seen scan e f (sym (append-nil buf)) h

pub cut_short_alone : (mid new : Option (List ℕ)) (buf after : List ℕ) (seen : ℕ) (scan : Scan) (came : Bool) → seen ≡ min (length buf) 16384 → seen ≢ 16384 → ScansTo at_first (take seen buf) seen scan → AddsSome mid new buf after came → came ≡ false → CutShort ≡ head_end_of after
cut_short_alone mid new buf after seen scan came e f h q r =
    cut_short (Some (buf ++ q.0)) (Some q.0) (Some []) buf after seen scan came e f refl h (alone mid new buf after came q) r ∙ ap head_end_of (sym q.2)

pub found_alone : (mid new : Option (List ℕ)) (buf after piece : List ℕ) (seen limit n lines : ℕ) (scan : Scan) (came : Bool) → seen ≡ min (length buf) 16384 → limit ≡ min (length after) 16384 → piece ≡ take (limit - seen) (drop seen after) → ScansTo at_first (take seen buf) seen scan → AddsSome mid new buf after came → end_from scan piece ≡ Some (sized n lines) → EndIs (Some after) (sized (seen + n) lines)
found_alone mid new buf after piece seen limit n lines scan came e f r h q s =
    let found = found_at (Some (buf ++ q.0)) (Some q.0) (Some []) buf after piece seen limit n lines scan came e f r refl h (alone mid new buf after came q) s in
    subst (λ w. EndIs (Some w) (sized (seen + n) lines)) (sym q.2) found
