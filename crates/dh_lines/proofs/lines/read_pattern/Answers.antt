use Rattle.std.proofs.Common.{◌∙◌}
use Rattle.dh_lines.proofs.PatternLemmas.{pattern_found}
use Rattle.dh_lines.proofs.lines.read_pattern.Goals as goal

pub returns-in-None : goal.returns-in-None
returns-in-None c =
    let found = c.in_ok-pattern in
    pattern_found c.args.text.now found.field-0 found.ensures ∙ c.in-None.is
