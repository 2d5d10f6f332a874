use Rattle.std.proofs.Common.{◌≡◌, map, string_bytes, take}
use Rattle.docs_host.proofs.usage.help_words.Given as goal

abbrev pub invariant-loop-name : goal.invariant-loop-name
invariant-loop-name l = map string_bytes l.words.items ≡ map string_bytes (take l.name-index l.names)
