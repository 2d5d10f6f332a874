use Rattle.std.proofs.Common.{◌∙◌, is_some, sym, ap}
use Rattle.dh_lines.proofs.PatternLemmas.{pattern_found}
use Rattle.dh_lines.proofs.lines.is_pattern.Goals as goal

pub returns : goal.returns
returns c =
    let found = c.in_ok-read in
    c.is_some.ensures ∙ ap is_some (sym (pattern_found c.args.text.now found.field-0 found.ensures))
