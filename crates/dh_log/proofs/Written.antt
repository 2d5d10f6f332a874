-- What is written of a line.
use Rattle.std.proofs.Common.{◌≡◌, ◌+◌, ◌<◌, ℕ, Bool, List, [], ◌++◌, length, Option, length-append, subst, sym, arith}
use Rattle.std.specs.Prelude.{codes}
use Rattle.std.proofs.KnownBytes.{Appends-nil}
use Rattle.dh_ports.specs.Ports.{PutsFirst}
use Rattle.dh_log.specs.Lines.{line_of, line_words}
use Rattle.dh_log.specs.Logs.{missed_text, told_text}
use Rattle.dh_log.specs.declared.entry.Entry.{Entry}
use Rattle.dh_log.specs.declared.log.Missed.{Missed}

-- a text that ends with a byte is not empty
ends_in_one : (xs ys : List ℕ) → 0 < length ys → 0 < length (xs ++ ys)
ends_in_one xs ys some = subst (λ n. 0 < n) (sym (length-append xs ys)) (omega (arith, some))

some_line : (has_levels : Bool) (entry : Entry) → 0 < length (line_of has_levels entry)
some_line has_levels entry = ends_in_one (line_words has_levels entry) (codes "\n") (omega arith)

some_text : (has_levels : Bool) (missed : Missed) (entry : Entry) → 0 < length (told_text has_levels missed entry)
some_text has_levels missed entry =
    ends_in_one (missed_text has_levels missed entry.measured.moment) (line_of has_levels entry) (some_line has_levels entry)

-- nothing of a line went out
pub none_put : (held : Option (List ℕ)) (has_levels : Bool) (missed : Missed) (entry : Entry) → PutsFirst held held (told_text has_levels missed entry) 0
none_put held has_levels missed entry = (some_text has_levels missed entry, Appends-nil held)
