-- How a line is cut into its words.
use Rattle.std.proofs.Common.{◌≡◌, ◌⊎◌, ℕ, ◌<◌, ◌≤◌, Bool, true, false, ◌||◌, ◌==◌, cond, List, [], ◌∷◌, ◌++◌, filter, length, take, drop, get_or, refl, sym, ap, subst, ◌∙◌, inl, inr, ⊎_elim, Option, Some, None, arith}
use Rattle.std.proofs.lemmas.Bool.{ne_eqb}
use Rattle.std.proofs.lemmas.List.{take-append-drop}
use Rattle.std.proofs.lemmas.List.Splits.{slice_split_none, slice_split_at}
use Rattle.std.proofs.lemmas.Str.{NoCharPasses-byte, encode_ascii, len_utf8_bounds}
use Rattle.std.proofs.lemmas.Iterator.{YieldsList}
use Rattle.std.proofs.lemmas.Iterator.Splits.{YieldsList-from_shown_while}
use Rattle.std.proofs.lemmas.Bool.{cases_lt}
use Rattle.std.proofs.lemmas.Grind.{get_or_default_zero}
use Rattle.std.specs.Prelude.{slice_index, MatchOption}
use Rattle.std.specs.Char.{char_set_contains, len_utf8}
use Rattle.std.specs.List.{All, slice_split}
use Rattle.std.specs.Str.{NoCharPasses}
use Rattle.std.specs.Str.Iter.{split_steps, split_text, split_has_more, split_pattern}
use Rattle.std.specs.Str.Pattern.{FindsBy}
use Rattle.dh_world.specs.World.{Text}
use Rattle.dh_script.specs.Running.{is_gap, is_filled, words_in}

-- a comment has no words
pub comment_words : (line : Text) (b : Bool) → b ≡ (slice_index line 0 == 35) → b ≡ true → words_in line ≡ []
unfolding words_in
comment_words line b same is = ap (λ (t : Bool). cond t [] (filter is_filled (slice_split is_gap line))) (sym same ∙ is)

-- any other line has the pieces that are not empty
pub line_words : (line : Text) (b : Bool) → b ≡ (slice_index line 0 == 35) → b ≡ false → filter is_filled (slice_split is_gap line) ≡ words_in line
unfolding words_in
line_words line b same not = sym (ap (λ (t : Bool). cond t [] (filter is_filled (slice_split is_gap line))) (sym same ∙ not))

or_false : (a b : Bool) → a ≡ false → b ≡ false → (a || b) ≡ false
or_false a b x y = ap (λ t. t || b) x ∙ y

drop_false : (a b : Bool) → (a || (b || false)) ≡ (a || b)
drop_false true b = refl
drop_false false true = refl
drop_false false false = refl

high : (b : ℕ) → 128 ≤ b → is_gap b ≡ false
high b h = or_false (32 == b) (9 == b) (ne_eqb 32 b (λ e. omega arith)) (ne_eqb 9 b (λ e. omega arith))

low : (c : ℕ) → is_gap c ≡ true → c < 128
low c gap = ⊎_elim (λ below. below) (λ over. let not = high c over in let no : ⊥ = cc in absurd no) (cases_lt c 128)

clear_at : (bs : Text) (k : ℕ) → NoCharPasses is_gap bs → k < length bs → (get_or bs k 0 < 128) ⊎ (128 ≤ get_or bs k 0) → is_gap (get_or bs k 0) ≡ false
clear_at bs k none below (inl ascii) = NoCharPasses-byte is_gap bs k none below ascii
clear_at bs k none below (inr over) = high (get_or bs k 0) over

-- no byte of such a piece is a space or a tab
clear : (bs : Text) → NoCharPasses is_gap bs → All (λ b. is_gap b ≡ false) bs
clear bs none k d below =
    subst (λ (b : ℕ). is_gap b ≡ false) (sym (get_or_default_zero bs k d below)) (clear_at bs k none below (cases_lt (get_or bs k 0) 128))

-- a text is its first piece, or that and what follows a space or a tab
abbrev Cuts : Text → Text → Text → Bool → Type 0
Cuts w x rest live = ((x ≡ w) × (live ≡ false)) ⊎ ((live ≡ true) × ((c : ℕ) × (is_gap c ≡ true) × (w ≡ x ++ c ∷ rest)))

piece : (w x rest : Text) (live : Bool) (o : Option (ℕ × ℕ)) → FindsBy is_gap w o → MatchOption o ((x ≡ w) × (live ≡ false)) (λ q. 0 < q.1 → (x ≡ take q.0 w) × (live ≡ true) × (rest ≡ drop q.1 w))
    → All (λ b. is_gap b ≡ false) x × Cuts w x rest live
piece w x rest live None finds cut = (subst (All (λ b. is_gap b ≡ false)) (sym cut.0) (clear w finds), inl cut)
piece w x rest live (Some q) finds cut =
    let c = finds.1.0 in
    let gap : is_gap c ≡ true = finds.1.1 in
    let wide : 1 ≤ len_utf8 c = (len_utf8_bounds c).0 in
    let at = cut (omega (arith, finds.1.2.ends, wide)) in
    let past : drop q.0 w ≡ c ∷ rest = finds.1.2.split ∙ ap (λ v. v ++ drop q.1 w) (encode_ascii c (low c gap)) ∙ ap {B = List ℕ} (λ v. c ∷ v) (sym at.2) in
    let all : w ≡ x ++ c ∷ rest = sym (take-append-drop q.0 w) ∙ ap (λ v. v ++ drop q.0 w) (sym at.0) ∙ ap (λ v. x ++ v) past in
    (subst (All (λ b. is_gap b ≡ false)) (sym at.0) (clear (take q.0 w) finds.0), inr (at.1, (c, gap, all)))

-- what a list of characters finds, and that it stays one for the same characters
abbrev FindsAlways : List ℕ → Text → Option (ℕ × ℕ) → Type 0
FindsAlways p w o = (k : ℕ → Bool) → ((c : ℕ) → char_set_contains p c ≡ k c) → FindsBy k w o

abbrev KeepsAlways : List ℕ → List ℕ → Type 0
KeepsAlways p q = (k : ℕ → Bool) → ((c : ℕ) → char_set_contains p c ≡ k c) → (c : ℕ) → char_set_contains q c ≡ k c

abbrev IsGaps : List ℕ → Type 0
IsGaps p = (c : ℕ) → char_set_contains p c ≡ is_gap c

-- a text that is cut at its spaces and tabs
pub YieldsList-from_gaps : {s : _} (bs : Text) → split_text {P = List ℕ} s ≡ bs → split_has_more s ≡ true → split_pattern s ≡ 32 ∷ 9 ∷ [] → YieldsList (split_steps FindsAlways KeepsAlways) (λ x. x.now) s (slice_split is_gap bs)
YieldsList-from_gaps {s} bs text more pattern =
    let parts = slice_split is_gap in
    let shown = λ (t : _). cond (split_has_more t) (parts (split_text t)) [] in
    subst (YieldsList (split_steps FindsAlways KeepsAlways) (λ x. x.now) s) (λ i. cond (more i) (parts (text i)) [])
    (YieldsList-from_shown_while (split_steps FindsAlways KeepsAlways) (λ x. x.now) shown (λ t. IsGaps (split_pattern t))
    (λ t u h k. ap (λ b. length (cond b (parts (split_text t)) [])) (sym k.0))
    (λ t x u h k.
    let cut = k.1.1.1 in
    let m = piece (split_text t) x.now (split_text u) (split_has_more u) cut.0 (cut.1 is_gap h) cut.2 in (
      k.1.0 is_gap h,
      ap (λ b. cond b (parts (split_text t)) []) (sym k.0) ∙ ⊎_elim
          (λ last. ap parts (sym last.0) ∙ slice_split_none is_gap x.now m.0 ∙ ap (λ b. x.now ∷ cond b (parts (split_text u)) []) (sym last.1))
          (λ on. ap parts on.1.2 ∙ slice_split_at is_gap x.now on.1.0 (split_text u) m.0 on.1.1 ∙ ap (λ b. x.now ∷ cond b (parts (split_text u)) []) (sym on.0))
          m.1,
    ))
    s (subst IsGaps (sym pattern) (λ c. drop_false (32 == c) (9 == c))))
