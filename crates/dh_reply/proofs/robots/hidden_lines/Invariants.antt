use Rattle.std.proofs.Common.{◌≡◌, take}
use Rattle.std.specs.Prelude.{string_bytes}
use Rattle.dh_reply.specs.System.{disallowed, lines_text}
use Rattle.dh_reply.proofs.robots.hidden_lines.Given as goal

abbrev pub invariant-loop-version : goal.invariant-loop-version
invariant-loop-version l = string_bytes l.out ≡ lines_text (disallowed l.langs (take l.version-index l.versions))
