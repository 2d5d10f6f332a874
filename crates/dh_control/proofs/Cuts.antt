-- Where an answer is cut.
use Rattle.std.proofs.Common.{◌≡◌, ℕ, ◌-◌, Bool, true, false, ◌==◌, cond, [], ◌∷◌, ◌++◌, length, take, drop, refl, sym, ap, ◌∙◌, Some, None, Result, Ok, Err, option_map, arith}
use Rattle.std.proofs.lemmas.List.{append_assoc, length-append, get_or_at, take_at, drop_at}
use Rattle.std.specs.Prelude.{slice_index, codes}
use Rattle.dh_ports.specs.declared.stop.Stop.TheVariants.{Read, TooManyTurns, Memory}
use Rattle.dh_script.specs.declared.fault.RunFault.TheVariants as run
use Rattle.dh_script.specs.declared.fault.ScriptFault.{ScriptFault}
use Rattle.dh_script.specs.declared.fault.ScriptFault.TheVariants.{Unread, TooLong, NotText, Run}
use Rattle.dh_world.specs.World.{Text}
use Rattle.dh_control.specs.Cutting.{own_line, onto_lines, whole_lines, AreLines, cut_front, cut}
use Rattle.dh_control.specs.Ends.{end_line, end_as_told}
use Rattle.dh_control.specs.Messages.{behind}
use Rattle.dh_control.specs.declared.end.End.{End}
use Rattle.dh_control.specs.declared.end.End.TheVariants.{Done, Refused, Unknown, Elsewhere}
use Rattle.dh_control.proofs.Codes.{code_open}

tail_own : (b : ℕ) (bs : Text) (t : Bool) → own_line t b ≡ b ∷ bs → [] ≡ bs
tail_own b bs true is = cc
tail_own b bs false is = let no : ⊥ = cc in absurd no

-- what follows the first byte of lines is lines
tail_lines : (b : ℕ) (bs lines : Text) → onto_lines b lines ≡ b ∷ bs → lines ≡ bs
tail_lines b bs [] is = tail_own b bs (b == 10) is
tail_lines b bs (c ∷ lines) is = cc

-- lines, and what stands behind the last of them
pub lines_behind : (lines rest : Text) → AreLines lines → whole_lines rest ≡ [] → whole_lines (lines ++ rest) ≡ lines
lines_behind [] rest are none = none
lines_behind (b ∷ bs) rest are none =
    let tail : AreLines bs = tail_lines b bs (whole_lines bs) are in
    ap (onto_lines b) (lines_behind bs rest tail none ∙ sym tail) ∙ are

onto_more : (b : ℕ) (bs : Text) (c : ℕ) → onto_lines b (bs ++ c ∷ []) ≡ b ∷ (bs ++ c ∷ [])
onto_more b [] c = refl
onto_more b (d ∷ bs) c = refl

-- a text that ends with LF
pub ended_line : (front : Text) → whole_lines (front ++ 10 ∷ []) ≡ front ++ 10 ∷ []
ended_line [] = refl
ended_line (b ∷ bs) = ap (onto_lines b) (ended_line bs) ∙ onto_more b bs 10

-- one that ends with another byte
pub open_line : (front : Text) (last : ℕ) → (last == 10) ≡ false → whole_lines (front ++ last ∷ []) ≡ whole_lines front
open_line [] last not = ap (λ t. own_line t last) not
open_line (b ∷ bs) last not = ap (onto_lines b) (open_line bs last not)

-- the same of a text by its last byte and what stands in front of it
pub ended_at : (bytes lines front : Text) (last : ℕ) → whole_lines bytes ≡ whole_lines lines → lines ≡ front ++ last ∷ [] → last ≡ 10 → lines ≡ whole_lines bytes
ended_at bytes lines front last same parts is =
    let whole : lines ≡ front ++ 10 ∷ [] = parts ∙ ap (λ b. front ++ b ∷ []) is in
    whole ∙ sym (ended_line front) ∙ ap whole_lines (sym whole) ∙ sym same

pub open_at : (bytes lines front : Text) (last : ℕ) → whole_lines bytes ≡ whole_lines lines → lines ≡ front ++ last ∷ [] → (last == 10) ≡ false → whole_lines bytes ≡ whole_lines front
open_at bytes lines front last same parts not = same ∙ ap whole_lines parts ∙ open_line front last not

pub length_more : (front : Text) (last : ℕ) → length (front ++ last ∷ []) - 1 ≡ length front
length_more front last = omega (arith, length-append front (last ∷ []))

-- the last byte, and what stands in front of it
pub cut_last : (front : Text) → cut (front ++ 10 ∷ []) ≡ cut_front front
cut_last front =
    ap (λ n. cond (slice_index (front ++ 10 ∷ []) n == 10) (cut_front (take n (front ++ 10 ∷ []))) None) (length_more front 10)
    ∙ ap (λ b. cond (b == 10) (cut_front (take (length front) (front ++ 10 ∷ []))) None) (get_or_at front 10 [] 0 (length front) refl)
    ∙ ap cut_front (take_at front (10 ∷ []) (length front) refl)

-- of such a line the word is found
cut_line : (printed line word : Text) → AreLines printed → whole_lines line ≡ [] → behind (codes "end ") line ≡ Some word → cut_front (printed ++ line) ≡ Some (printed, word)
cut_line printed line word are open_ told =
    ap (λ (lines : Text). option_map (λ w. (lines, w)) (behind (codes "end ") (drop (length lines) (printed ++ line)))) (lines_behind printed line are open_)
    ∙ ap (λ (rest : Text). option_map (λ w. (printed, w)) (behind (codes "end ") rest)) (drop_at printed line (length printed) refl)
    ∙ ap (option_map (λ w. (printed, w))) told

abbrev EndIsTold : Result End ScriptFault → Type 0
EndIsTold ended =
    (end_line ended ≡ codes "end " ++ end_as_told ended ++ 10 ∷ [])
    × (whole_lines (codes "end " ++ end_as_told ended) ≡ [])
    × (behind (codes "end ") (codes "end " ++ end_as_told ended) ≡ Some (end_as_told ended))

tells : (ended : Result End ScriptFault) → EndIsTold ended
tells (Ok Done) = (refl, refl, refl)
tells (Ok (Refused reason)) = (
  refl,
  ap (λ (lines : Text). onto_lines 101 (onto_lines 110 (onto_lines 100 (onto_lines 32 (onto_lines 49 (onto_lines 32 lines)))))) (code_open reason),
  refl,
)
tells (Ok Unknown) = (refl, refl, refl)
tells (Ok Elsewhere) = (refl, refl, refl)
tells (Err (Unread Read)) = (refl, refl, refl)
tells (Err (Unread TooManyTurns)) = (refl, refl, refl)
tells (Err (Unread Memory)) = (refl, refl, refl)
tells (Err TooLong) = (refl, refl, refl)
tells (Err NotText) = (refl, refl, refl)
tells (Err (Run run.Memory)) = (refl, refl, refl)
tells (Err (Run run.Write)) = (refl, refl, refl)

pub answers_cut : (printed : Text) (ended : Result End ScriptFault) → AreLines printed → cut (printed ++ end_line ended) ≡ Some (printed, end_as_told ended)
answers_cut printed ended are =
    let line = codes "end " ++ end_as_told ended in
    ap (λ last. cut (printed ++ last)) (tells ended).0
    ∙ ap cut (sym (append_assoc printed line (10 ∷ [])))
    ∙ cut_last (printed ++ line)
    ∙ cut_line printed line (end_as_told ended) are (tells ended).1 (tells ended).2
