use Rattle.std.proofs.Common.{◌≡◌, map, take}
use Rattle.std.specs.Prelude.{fold}
use Rattle.dh_lines.specs.Forms.{with_more}
use Rattle.dh_lines.proofs.app.with_options.Given as goal

abbrev pub invariant-loop-more : goal.invariant-loop-more
invariant-loop-more l =
    l.syntax ≡ fold with_more l.fn.syntax (map (λ more. more) (take l.more-index l.options))
