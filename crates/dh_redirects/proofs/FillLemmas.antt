-- That the code's escapes and cuts are those of `sent`, `filled` and `one_slash`.
use Rattle.std.proofs.Common.{◌≡◌, ◌≢◌, ℕ, suc, ◌+◌, Bool, true, false, cond, ◌==◌, List, [], ◌∷◌, ◌++◌, drop, slice_index, Option, Some, None, MatchOption, Bor, refl, sym, ◌∙◌, ap, arith, lit<, append_assoc}
use Rattle.std.specs.List.{All, prefix_len, flat_map}
use Rattle.std.specs.Option.{option_map_or, option_copied}
use Rattle.std.specs.Str.Pattern.{FindsCharPrefix, CutsPrefixes, IsTrimStartMatches}
use Rattle.std.proofs.lemmas.Str.Pattern.{drop_at_char, strip_prefix_char}
use Rattle.percent_encoding.specs.AsciiSet.{should_percent_encode}
use Rattle.percent_encoding.specs.Percent.{percent_encode}
use Rattle.percent_encoding.proofs.PercentLemmas.{IsByte}
use Rattle.dh_texts.specs.Escapes.{escaped}
use Rattle.dh_texts.proofs.EscapeLemmas.{EscapesBut, percent_encode-kept}
use Rattle.dh_redirects.specs.declared.fill.TheConstants.{UNSENT}
use Rattle.dh_redirects.specs.Locations.{is_sent, sent, after_colon, colon_parts, filled}

table : EscapesBut UNSENT is_sent
unfolding should_percent_encode
table = refl

pub percent_encode-sent : (bs : List ℕ) → All IsByte bs → percent_encode UNSENT bs ≡ sent bs
unfolding sent
percent_encode-sent bs h = percent_encode-kept UNSENT is_sent table bs h

-- the parts that are left of To
abbrev pub left_parts : Option (Bor (List ℕ)) → List (List ℕ)
left_parts o = option_map_or colon_parts (option_copied o) []

-- one more part is written
pub one_more : (rest out out' part : List ℕ) (parts : List (List ℕ)) → out' ≡ out ++ after_colon rest part → out' ++ flat_map (after_colon rest) parts ≡ out ++ flat_map (after_colon rest) (part ∷ parts)
one_more rest out out' part parts h = rw h (append_assoc out (after_colon rest part) (flat_map (after_colon rest) parts))

-- all are written
pub filled_whole : (rest target encoded old start out first : List ℕ) (parts : List (List ℕ)) → encoded ≡ escaped rest → start ≡ old ++ sent first → colon_parts target ≡ first ∷ parts → out ≡ start ++ flat_map (after_colon encoded) parts → out ≡ old ++ filled rest target
unfolding filled
filled_whole rest target encoded old start out first parts same begins cut all =
    rw (all, begins, same, cut) (append_assoc old (sent first) (flat_map (after_colon (escaped rest)) parts))

abbrev slash : ℕ → Bool
slash b = b == 47

-- what follows the leading slashes
after_slashes : List ℕ → List ℕ
after_slashes s = drop (prefix_len slash s) s

after_slashes-cons : (s : List ℕ) → after_slashes (47 ∷ s) ≡ after_slashes s
unfolding after_slashes
after_slashes-cons s = let e : 1 + prefix_len slash s ≡ suc (prefix_len slash s) = omega arith in rw e refl

cut_slashes : (s : List ℕ) (ns : List ℕ) (r : List ℕ) → CutsPrefixes (FindsCharPrefix 47) s ns r → after_slashes s ≡ after_slashes r
cut_slashes s [] r h = ap after_slashes (sym h)
cut_slashes s (n ∷ ns) r h =
    let m = h.0 in
    let first : m ≡ 47 ∷ drop n m = drop_at_char 47 m 0 n h.2 (lit< tt) in
    cut_slashes s ns m h.1 ∙ ap after_slashes first ∙ after_slashes-cons (drop n m) ∙ ap after_slashes (sym h.3)

no_slash : (r : List ℕ) → ((rest : List ℕ) → r ≢ 47 ∷ rest) → after_slashes r ≡ r
unfolding after_slashes
no_slash [] h = refl
no_slash (x ∷ xs) h =
    elim (x == 47) as (λ v. (x == 47) ≡ v → drop (cond v (1 + prefix_len slash xs) 0) (x ∷ xs) ≡ x ∷ xs) [
      | true ↦ λ e. absurd (h xs (grind (arith, e)))
      | false ↦ λ e. refl
    ] refl

-- `trim_start_matches('/')`
pub trimmed : (s r : List ℕ) → IsTrimStartMatches (FindsCharPrefix 47) s r → r ≡ drop (prefix_len (λ b. b == 47) s) s
unfolding after_slashes
trimmed s r h =
    let ended : after_slashes r ≡ r = ended_of h.1.0 h.1.1 h.1.2 in
    sym (cut_slashes s h.0.0 r h.0.1 ∙ ended)
  where
    ended_of : (o : Option ℕ) → FindsCharPrefix 47 r o → MatchOption o (Unit {0}) (λ n. n ≡ 0) → after_slashes r ≡ r
    ended_of None found none = no_slash r (strip_prefix_char 47 r None found (lit< tt))
    ended_of (Some n) found none = absurd (omega (arith, found.ends))

pub after_slashes-head : (s : List ℕ) → (slice_index (drop (prefix_len (λ b. b == 47) s) s) 0 == 47) ≡ false
after_slashes-head [] = refl
after_slashes-head (x ∷ xs) =
    elim (x == 47) as (λ v. (x == 47) ≡ v → (slice_index (drop (cond v (1 + prefix_len slash xs) 0) (x ∷ xs)) 0 == 47) ≡ false) [
      | true ↦ λ _. let e : 1 + prefix_len slash xs ≡ suc (prefix_len slash xs) = omega arith in rw e (after_slashes-head xs)
      | false ↦ λ e. e
    ] refl
