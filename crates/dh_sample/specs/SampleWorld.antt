-- The sample as a world: what three commands leave.
use Rattle.std.specs.Prelude.{◌≡◌, ◌⊎◌, ℕ, false, List, [], ◌∷◌, ◌++◌, take, slice_get, Some, codes, Result, Ok, Err}
use Rattle.std.specs.Result.{result_unwrap_or}
use Rattle.std.specs.FinMap.{empty}
use Rattle.dh_versions.specs.declared.version.Kind.TheVariants.{Branch}
use Rattle.dh_world.specs.World.{Text, World}
use Rattle.dh_world.specs.declared.command.Command.{Command}
use Rattle.dh_world.specs.declared.command.CommandChange.{CommandChange}
use Rattle.dh_world.specs.declared.command.CommandChange.TheVariants.{NewProject, Push, Upload}
use Rattle.dh_world.specs.declared.pages.UploadedPage.{UploadedPage}
use Rattle.dh_world.specs.declared.refusal.Refusal.{Refusal}
use Rattle.dh_world.specs.declared.answer.Answer.{Answer}
use Rattle.dh_world.specs.Step.{step, IsSetAside}

-- a page whose body is the text and LF
abbrev pub uploaded_page : Text → Text → UploadedPage
uploaded_page path text =
    record { path = path; media = codes "text/html; charset=utf-8"; body = text ++ 10 ∷ [] }

abbrev pub sample_uploads : List UploadedPage
sample_uploads =
    uploaded_page (codes "index.html") (codes "<h1>Index</h1>")
    ∷ uploaded_page (codes "install.html") (codes "<h1>Install</h1>")
    ∷ uploaded_page (codes "guide/index.html") (codes "<h1>Guide</h1>")
    ∷ []

-- the command that asks for this change of the sample's project
abbrev pub of_sample : CommandChange → Command
of_sample change = record { host = codes "docs.test"; change = change }

abbrev pub make_sample : Command
make_sample = of_sample (NewProject (codes "en") (codes "main") false (codes "sample-key"))

abbrev pub push_sample : Command
push_sample = of_sample (Push (codes "sample-key") (codes "s1") Branch (codes "main"))

abbrev pub upload_sample : Command
upload_sample =
    of_sample (Upload (codes "sample-key") (codes "s2") (codes "main") (codes "en") false
    sample_uploads)

-- what `next` makes of the world after a step; or the step's refusal
abbrev pub on_step : Result (World × Answer) Refusal → (World → Result World Refusal) → Result World Refusal
on_step (Ok (w, answer)) next = next w
on_step (Err refusal) next = Err refusal

-- one command after the other, up to the first that is refused
abbrev pub after_all : List Command → World → Result World Refusal
after_all [] w = Ok w
after_all (c ∷ cs) w = on_step (step w c) (after_all cs)

-- the commands of the sample, in turn
abbrev pub sample_commands : List Command
sample_commands = make_sample ∷ push_sample ∷ upload_sample ∷ []

-- the sample's world: what its commands make of an empty one
unfoldable pub sample_world : World
sample_world = result_unwrap_or (after_all sample_commands empty) empty

-- the first of the commands were done, this many, and the next was refused, by its step or by being set aside; none behind it
-- was done
pub record StopsBehind (cs : List Command) (before after : World) (e : Refusal) (done : ℕ) : Type 0 where
  pub only_those : after_all (take done cs) before ≡ Ok after
  pub command : Command
  pub next : slice_get cs done ≡ Some command
  pub why : IsSetAside after command e ⊎ (step after command ≡ Err e)

-- all commands are done; or those before one that was refused, and no other
abbrev pub DoesAll : List Command → World → World → Result Unit Refusal → Type 0
DoesAll commands before after (Ok done) = after_all commands before ≡ Ok after
DoesAll commands before after (Err e) = (done : ℕ) × StopsBehind commands before after e done

-- the world has the sample added, or the part of it that was done before the first refusal
abbrev pub AddsSample : World → World → Result Unit Refusal → Type 0
AddsSample = DoesAll sample_commands
