use Rattle.std.proofs.Common.{map, string_bytes}
use Rattle.dh_lines.proofs.LineLemmas.{line_read, no_matches}
use Rattle.dh_lines.proofs.lines.line_by.Goals as goal

pub returns-in_err-matches-clause-says : goal.returns-in_err-matches-clause-says
returns-in_err-matches-clause-says c =
    no_matches (map string_bytes c.args.words.now) c.in_err-matches.field-0.0
    c.from_residual.result c.from_residual.ensures.1 c.in_err-matches.ensures.matches

pub returns-clause-says : goal.returns-clause-says
returns-clause-says c =
    line_read (map string_bytes c.args.words.now) c.in_ok-matches.matches c.read_line.result
    c.in_ok-matches.ensures.matches c.read_line.ensures
