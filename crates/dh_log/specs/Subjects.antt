-- What of a command may stand in a log: its word or its path, its host, and a version. No key and no pass is among it.
use Rattle.std.specs.Prelude.{◌≡◌, ℕ, List, [], Option, None, IfSome, codes}
use Rattle.std.specs.Option.{option_map}
use Rattle.dh_world.specs.World.{Text}
use Rattle.dh_world.specs.Refusals.{refusal_number}
use Rattle.dh_world.specs.declared.command.Command.{Command}
use Rattle.dh_world.specs.declared.command.CommandChange.{CommandChange}
use Rattle.dh_world.specs.declared.command.CommandChange.TheVariants as change
use Rattle.dh_world.specs.declared.refusal.Refusal.{Refusal}
use Rattle.dh_log.specs.declared.subject.Note.{Note}
use Rattle.dh_log.specs.declared.subject.Subject.{Subject}

-- the word of the order
abbrev pub word_of : CommandChange → Text
word_of (change.NewProject lang branch private wkey) = codes "new-project"
word_of (change.AddLang lang) = codes "add-lang"
word_of (change.Push wkey key kind name) = codes "push"
word_of (change.Upload wkey key slug lang replace pages) = codes "upload"
word_of (change.Activate slug) = codes "activate"
word_of (change.Deactivate slug) = codes "deactivate"
word_of (change.Hide slug) = codes "hide"
word_of (change.Unhide slug) = codes "unhide"
word_of (change.Publish slug) = codes "publish"
word_of (change.MakePrivate slug) = codes "make-private"
word_of (change.Gone slug) = codes "gone"
word_of (change.SetDefault name) = codes "set-default"
word_of (change.AddRule place rule) = codes "add-rule"
word_of (change.DropRule place) = codes "drop-rule"
word_of (change.AddRedirect place redirect) = codes "add-redirect"
word_of (change.DropRedirect place) = codes "drop-redirect"
word_of (change.ImportRedirects list) = codes "import"
word_of (change.AddPass pass until) = codes "add-pass"
word_of (change.DropPass pass) = codes "drop-pass"
word_of (change.Grant pass slug) = codes "grant"
word_of (change.Revoke pass slug) = codes "revoke"

-- the path of the POST; empty for what is no POST
abbrev pub path_of : CommandChange → Text
path_of (change.Push wkey key kind name) = codes "/_/push"
path_of (change.Upload wkey key slug lang replace pages) = codes "/_/upload"
path_of _ = []

-- the version that the command is about, by its slug, or the name of its branch or tag
abbrev pub version_of : CommandChange → Text
version_of (change.Push wkey key kind name) = name
version_of (change.Upload wkey key slug lang replace pages) = slug
version_of (change.Activate slug) = slug
version_of (change.Deactivate slug) = slug
version_of (change.Hide slug) = slug
version_of (change.Unhide slug) = slug
version_of (change.Publish slug) = slug
version_of (change.MakePrivate slug) = slug
version_of (change.Gone slug) = slug
version_of (change.SetDefault name) = name
version_of (change.Grant pass slug) = slug
version_of (change.Revoke pass slug) = slug
version_of _ = []

-- the subject has this name, host and version
pub record IsSubject (name host slug : Text) (subject : Subject) : Type 0 where
  pub name_is : subject.name.now ≡ name
  pub host_is : subject.host ≡ host
  pub slug_is : subject.slug ≡ slug

-- the subject of an order that is this command, and of a POST that is one
abbrev pub IsOrderSubject : Command → Subject → Type 0
IsOrderSubject command = IsSubject (word_of command.change) command.host (version_of command.change)

abbrev pub IsPostSubject : Command → Subject → Type 0
IsPostSubject command = IsSubject (path_of command.change) command.host (version_of command.change)

-- the note of a POST that is this command, and was refused so, or done; without a subject where memory was out
pub record NotesPost (command : Command) (refusal : Option Refusal) (note : Note) : Type 0 where
  pub refusal_is : note.refusal ≡ option_map refusal_number refusal
  pub subject_is : IfSome note.subject (IsPostSubject command)

-- the note tells nothing
pub record NotesNothing (note : Note) : Type 0 where
  pub no_refusal : note.refusal ≡ None
  pub no_subject : note.subject ≡ None
