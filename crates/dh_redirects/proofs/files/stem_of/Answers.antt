use Rattle.std.proofs.Common.{arith, length, ◌<◌}
use Rattle.dh_redirects.proofs.TextLemmas.{stem_none, stem_some}
use Rattle.dh_redirects.proofs.files.stem_of.Goals as goal

pub returns-in_default : goal.returns-in_default
returns-in_default c = stem_none c.args.end.now c.args.file.now c.in_default.ensures.cases

pub returns-else-is_empty : goal.returns-else-is_empty
returns-else-is_empty c =
    let some : 0 < length c.in-Some.stem.now = grind (arith, c.is_empty.ensures, c.if-is_empty.false) in
    stem_some c.args.end.now c.args.file.now c.in-Some.stem.now c.in-Some.ensures.cases some
