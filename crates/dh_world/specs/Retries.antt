-- Retry keys: a push or an upload that is done again gives its first answer, for good.
use Rattle.std.specs.Prelude.{◌≡◌, true, List, [], ◌∷◌, Option, Some, None, is_some, Result, Ok, Err, option_map, option_and_then}
use Rattle.std.specs.FinMap.{get}
use Rattle.dh_texts.specs.SlugOfName.{slug_text}
use Rattle.dh_world.specs.declared.answer.Answer.{Answer}
use Rattle.dh_world.specs.World.{Text, World, UsedKey}
use Rattle.dh_world.specs.declared.command.Command.{Command}
use Rattle.dh_world.specs.declared.command.CommandChange.{CommandChange}
use Rattle.dh_world.specs.declared.command.CommandChange.TheVariants.{Push, Upload}
use Rattle.dh_world.specs.declared.refusal.Refusal.{Refusal}
use Rattle.dh_world.specs.Changes.{push_key, upload_key}
use Rattle.dh_world.specs.WrongTexts.{bad_text}
use Rattle.dh_world.specs.Step.{step}

-- the retry key of a push or an upload, with its slug
abbrev pub retry_key : CommandChange → Option UsedKey
retry_key (Push wkey key kind name) = Some (push_key (slug_text name) key)
retry_key (Upload wkey key slug lang replace pages) = Some (upload_key slug key)
retry_key _ = None

-- the write key of a push or an upload
abbrev pub write_key : CommandChange → Option Text
write_key (Push wkey key kind name) = Some wkey
write_key (Upload wkey key slug lang replace pages) = Some wkey
write_key _ = None

-- the write key of the project under a host
abbrev pub write_key_at : World → Text → Option Text
write_key_at w host = option_map (λ p. p.wkey) (get w host)

-- the answer that is kept under a retry key of the project under a host
abbrev pub kept : World → Text → UsedKey → Option Answer
kept w host key = option_and_then (λ p. get p.used key) (get w host)

-- the world after a step; a refusal changes nothing
abbrev pub left_by : World → Result (World × Answer) Refusal → World
left_by w (Ok (new, answer)) = new
left_by w (Err refusal) = w

-- the world after commands, one after the other
abbrev pub after : World → List Command → World
after w [] = w
after w (c ∷ cs) = after (left_by w (step w c)) cs

-- an accepted push or upload leaves its answer kept under its retry key
abbrev pub FirstIsKept : Type 0
FirstIsKept = (w new : World) (c : Command) (answer : Answer) (key : UsedKey) → step w c ≡ Ok (new, answer) → retry_key c.change ≡ Some key → kept new c.host key ≡ Some answer

-- an answer that is kept stays kept at each step, of any host
abbrev pub KeptStays : Type 0
KeptStays = (w new : World) (c : Command) (answer : Answer) → step w c ≡ Ok (new, answer) → (host : Text) (key : UsedKey) (first : Answer) → kept w host key ≡ Some first → kept new host key ≡ Some first

-- a push or an upload whose texts and write key are right, under a key that is kept, gives the answer that is kept, and the same world
abbrev pub KeptIsAnswered : Type 0
KeptIsAnswered = (w : World) (c : Command) (key : UsedKey) (first : Answer) → retry_key c.change ≡ Some key → bad_text c ≡ None → write_key_at w c.host ≡ write_key c.change → kept w c.host key ≡ Some first
    → step w c ≡ Ok (w, first)

-- a push or an upload that was accepted gives its first answer again, and changes nothing, whatever came between
abbrev pub AnswersForGood : Type 0
AnswersForGood = (w new : World) (c : Command) (answer : Answer) → step w c ≡ Ok (new, answer) → is_some (retry_key c.change) ≡ true → (between : List Command) → step (after new between) c ≡ Ok (after new between, answer)
