use Rattle.std.proofs.Common.{◌≡◌, ◌++◌, take, map}
use Rattle.std.specs.Prelude.{string_bytes}
use Rattle.dh_reply.specs.System.{disallow, lines_text}
use Rattle.dh_reply.proofs.robots.put_version.Given as goal

abbrev pub invariant-loop-lang : goal.invariant-loop-lang
invariant-loop-lang l = string_bytes l.out ≡ string_bytes l.initial.out ++ lines_text (map (disallow l.slug) (take l.lang-index l.langs))
