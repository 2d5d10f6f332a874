-- How an answer is cut into what was printed and how it ended.
use Rattle.std.specs.Prelude.{◌≡◌, ℕ, ◌-◌, ◌==◌, Bool, true, false, [], ◌∷◌, ◌++◌, Option, Some, None, Result}
use Rattle.std.specs.Prelude.{length, take, drop, slice_index, codes, if◌then◌else◌}
use Rattle.std.specs.Option.{option_map}
use Rattle.dh_script.specs.declared.fault.ScriptFault.{ScriptFault}
use Rattle.dh_world.specs.World.{Text}
use Rattle.dh_control.specs.Ends.{end_line, end_as_told}
use Rattle.dh_control.specs.Messages.{behind}
use Rattle.dh_control.specs.declared.end.End.{End}

-- the byte, where it ends a line
abbrev pub own_line : Bool → ℕ → Text
own_line true byte = byte ∷ []
own_line false byte = []

-- puts a byte in front of the whole lines that follow it
abbrev pub onto_lines : ℕ → Text → Text
onto_lines byte [] = own_line (byte == 10) byte
onto_lines byte (next ∷ lines) = byte ∷ next ∷ lines

-- the lines of a text that have their ends, with the ends
abbrev pub whole_lines : Text → Text
whole_lines [] = []
whole_lines (byte ∷ bytes) = onto_lines byte (whole_lines bytes)

-- nothing but whole lines
abbrev pub AreLines : Text → Type 0
AreLines text = whole_lines text ≡ text

-- cuts an answer without its last LF: its last line is `end` and a word, and what was printed stands before
abbrev pub cut_front : Text → Option (Text × Text)
cut_front front =
    option_map (λ word. (whole_lines front, word)) (behind (codes "end ") (drop (length (whole_lines front)) front))

-- what was printed, and the word by which the end is told
abbrev pub cut : Text → Option (Text × Text)
cut answer =
    if slice_index answer (length answer - 1) == 10 then cut_front (take (length answer - 1) answer) else None

-- cutting an answer gives the lines that were printed and the word of the end, whatever they are
abbrev pub AnswersAreCut : Type 0
AnswersAreCut =
    (printed : Text) (ended : Result End ScriptFault) → AreLines printed
    → cut (printed ++ end_line ended) ≡ Some (printed, end_as_told ended)
