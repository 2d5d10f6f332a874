use Rattle.std.proofs.Common.{◌≡◌, map, filter, string_bytes}
use Rattle.dh_script.specs.Running.{is_filled}
use Rattle.dh_script.proofs.script.words_of.Given as goal

abbrev pub invariant-loop-word : goal.invariant-loop-word
invariant-loop-word l = map string_bytes l.words.items ≡ filter is_filled (map (λ x. x.now) l.yielded)
