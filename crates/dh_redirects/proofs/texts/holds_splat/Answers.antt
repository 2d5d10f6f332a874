use Rattle.std.proofs.Common.{codes}
use Rattle.dh_redirects.proofs.TextLemmas.{holds_is}
use Rattle.dh_redirects.proofs.texts.holds_splat.Goals as goal

pub returns : goal.returns
returns c = holds_is c.contains.result (codes ":splat") c.args.text.now c.contains.ensures.cases
