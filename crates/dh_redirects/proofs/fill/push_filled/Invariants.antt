use Rattle.std.proofs.Common.{◌≡◌, suc, ◌++◌, length, string_bytes}
use Rattle.std.specs.List.{flat_map}
use Rattle.std.specs.Option.{option_map_or, option_copied}
use Rattle.dh_redirects.specs.Locations.{after_colon}
use Rattle.dh_redirects.proofs.FillLemmas.{left_parts}
use Rattle.dh_redirects.proofs.fill.push_filled.Given as goal

-- what is written and what is left make the same text all along
abbrev pub invariant-loop-others : goal.invariant-loop-others
invariant-loop-others l =
    string_bytes l.out ++ flat_map (after_colon (string_bytes l.encoded)) (left_parts l.others)
    ≡ string_bytes l.initial.out ++ flat_map (after_colon (string_bytes l.encoded)) (left_parts l.initial.others)

abbrev pub decreases-loop-others : goal.decreases-loop-others
decreases-loop-others l = option_map_or (λ rest. suc (length rest)) (option_copied l.others) 0
