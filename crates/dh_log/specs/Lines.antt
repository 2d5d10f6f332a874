-- The text of a line: nine words, and nothing of a request or an order but what stands in its entry.
use Rattle.std.specs.Prelude.{ℕ, ◌^◌, ◌<◌, ◌≤◌, Bool, List, [], ◌++◌, length, codes, nat_eq, if◌then◌else◌}
use Rattle.std.specs.Fmt.{decimal}
use Rattle.std.specs.List.{All}
use Rattle.dh_texts.specs.Escapes.{escaped}
use Rattle.dh_log.specs.declared.entry.About.{About}
use Rattle.dh_log.specs.declared.entry.Entry.{Entry}
use Rattle.dh_log.specs.declared.entry.Level.{Level}
use Rattle.dh_log.specs.declared.entry.Level.TheVariants.{Error, Warning, Info}
use Rattle.dh_log.specs.declared.entry.Measured.{Measured}
use Rattle.dh_log.specs.declared.entry.Word.{Word}
use Rattle.dh_log.specs.declared.entry.Word.TheVariants.{Text, Number}

-- a text as a word of a line, escaped as a path is; `-` for an empty one
abbrev pub shown : List ℕ → List ℕ
shown text = if nat_eq (length text) 0 then codes "-" else escaped text

abbrev pub shown_word : Word → List ℕ
shown_word (Text text) = shown text.now
shown_word (Number number) = decimal number

-- the level as syslog counts it (RFC 5424, section 6.2.1), where lines have levels
abbrev pub level_mark : Level → List ℕ
level_mark Error = codes "<3>"
level_mark Warning = codes "<4>"
level_mark Info = codes "<6>"

abbrev pub mark_of : Bool → Level → List ℕ
mark_of has_levels level = if has_levels then level_mark level else []

-- what came of it, what it was, and of what
unfoldable pub deed_text : Word → About → List ℕ
deed_text outcome about =
    shown_word outcome ++ codes " " ++ shown about.kind.now ++ codes " " ++ shown about.name.now

-- how many bytes answered it, in how many microseconds, under which host, and when
unfoldable pub measured_text : List ℕ → Measured → List ℕ
measured_text host measured =
    codes " " ++ decimal measured.bytes ++ codes " " ++ decimal measured.micros
    ++ codes " " ++ shown host ++ codes " " ++ decimal measured.moment

-- why, and of which version
unfoldable pub cause_text : Word → List ℕ → List ℕ
cause_text cause slug = codes " " ++ shown_word cause ++ codes " " ++ shown slug

-- the nine words of an entry, behind its level where lines have levels
abbrev pub line_words : Bool → Entry → List ℕ
line_words has_levels entry =
    mark_of has_levels entry.level ++ deed_text entry.outcome entry.about
    ++ measured_text entry.about.host.now entry.measured ++ cause_text entry.cause entry.about.slug.now

abbrev pub line_of : Bool → Entry → List ℕ
line_of has_levels entry = line_words has_levels entry ++ codes "\n"

-- the line that tells, at a moment, how many lines were lost
abbrev pub lost_line : Bool → ℕ → ℕ → List ℕ
lost_line has_levels moment lost =
    mark_of has_levels Warning ++ codes "Lost LOG - 0 0 -" ++ codes " " ++ decimal moment ++ codes " " ++ decimal lost ++ codes " -\n"

-- visible ASCII
abbrev pub IsVisible : ℕ → Type 0
IsVisible byte = (33 ≤ byte) × (byte ≤ 126)

-- the bytes of each text, as they are shown, are visible ASCII: no space, no end of a line, and nothing that a terminal reads
abbrev pub TextsAreVisible : Type 0
TextsAreVisible = (text : List ℕ) → All (λ byte. byte < 2 ^ 8) text → All IsVisible (shown text)
