-- Which entry is told of a request, of a message, and of a server.
use Rattle.std.specs.Prelude.{◌≡◌, ℕ, List, [], Option, Some, None, codes}
use Rattle.std.specs.Fmt.{decimal}
use Rattle.dh_log.specs.Heads.{method_in, path_in, text_in}
use Rattle.dh_log.specs.Lines.{shown, shown_word}
use Rattle.dh_log.specs.declared.entries.Answered.{Answered}
use Rattle.dh_log.specs.declared.entry.About.{About}
use Rattle.dh_log.specs.declared.entry.Entry.{Entry}
use Rattle.dh_log.specs.declared.entry.Level.{Level}
use Rattle.dh_log.specs.declared.entry.Level.TheVariants.{Error}
use Rattle.dh_log.specs.declared.entry.Measured.{Measured}
use Rattle.dh_log.specs.declared.subject.Note.{Note}
use Rattle.dh_log.specs.declared.subject.Ordered.{Ordered}
use Rattle.dh_log.specs.declared.subject.Subject.{Subject}

-- something of this kind and name, under this host, of this version
pub record IsAbout (kind name host slug : List ℕ) (about : About) : Type 0 where
  pub kind_is : about.kind.now ≡ kind
  pub name_is : about.name.now ≡ name
  pub host_is : about.host.now ≡ host
  pub slug_is : about.slug.now ≡ slug

-- it ended so, for this cause, as words of a line
pub record EndedAs (level : Level) (outcome cause : List ℕ) (entry : Entry) : Type 0 where
  pub level_is : entry.level ≡ level
  pub outcome_is : shown_word entry.outcome ≡ outcome
  pub cause_is : shown_word entry.cause ≡ cause

-- of a command a line tells its subject; of any other request its first line and its host
abbrev pub IsAboutRequest : Option Subject → Answered → About → Type 0
IsAboutRequest (Some subject) answered = IsAbout (codes "POST") subject.name.now subject.host subject.slug
IsAboutRequest None answered = IsAbout (method_in answered.line.now) (path_in answered.line.now) (text_in answered.host.now) []

-- the number of a refusal, where there is one
abbrev pub cause_of : Option ℕ → List ℕ → List ℕ
cause_of (Some number) reason = decimal number
cause_of None reason = shown reason

pub record IsOfRequest (answered : Answered) (note : Note) (measured : Measured) (entry : Entry) : Type 0 where
  pub about : IsAboutRequest note.subject answered entry.about
  pub ended : EndedAs answered.level (shown_word answered.outcome) (cause_of note.refusal answered.reason.now) entry
  pub measures : entry.measured ≡ measured

abbrev pub IsAboutMessage : Option Subject → About → Type 0
IsAboutMessage (Some subject) = IsAbout (codes "ORDER") subject.name.now subject.host subject.slug
IsAboutMessage None = IsAbout (codes "ORDER") [] [] []

pub record IsOfMessage (ordered : Ordered) (measured : Measured) (entry : Entry) : Type 0 where
  pub about : IsAboutMessage ordered.subject entry.about
  pub ended : EndedAs ordered.level (shown ordered.outcome.now) (shown ordered.cause.now) entry
  pub measures : entry.measured ≡ measured

-- a moment, at which nothing was answered
abbrev pub at_moment : ℕ → Measured
at_moment moment = record { moment = moment; bytes = 0; micros = 0 }

-- the system gave no connection
pub record IsOfNone (moment : ℕ) (entry : Entry) : Type 0 where
  pub about : IsAbout [] [] [] [] entry.about
  pub ended : EndedAs Error (shown (codes "Accept")) (shown []) entry
  pub measures : entry.measured ≡ at_moment moment

-- a server of a file began or ended
pub record IsOfServer (level : Level) (outcome file cause : List ℕ) (moment : ℕ) (entry : Entry) : Type 0 where
  pub about : IsAbout (codes "SERVE") file [] [] entry.about
  pub ended : EndedAs level (shown outcome) (shown cause) entry
  pub measures : entry.measured ≡ at_moment moment
