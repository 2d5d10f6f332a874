use Rattle.std.proofs.Common.{◌≡◌, map, string_bytes}
use Rattle.dh_texts.specs.SlugOfName.{slug_char, from_letter}
use Rattle.dh_texts.proofs.slug.make_slug_text.Given as goal

abbrev pub invariant-loop-c : goal.invariant-loop-c
invariant-loop-c l = string_bytes l.text ≡ from_letter (map slug_char l.yielded)
