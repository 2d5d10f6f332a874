use Rattle.std.proofs.Common.{◌∙◌, ap, take}
use Rattle.std.proofs.lemmas.List.{take_min}
use Rattle.dh_server.specs.Lines.{begun, line_in}
use Rattle.dh_server.proofs.beginning.Beginning.first_line.Goals as goal

pub returns-clause-line : goal.returns-clause-line
returns-clause-line c =
    ap (λ n. take n c.line_of-line.result.now) c.min.ensures
    ∙ take_min 2048 c.line_of-line.result.now
    ∙ ap (take 2048) c.line_of-line.ensures
    ∙ ap line_in (c.begun.ensures ∙ ap begun c.as_slice.ensures.value)
