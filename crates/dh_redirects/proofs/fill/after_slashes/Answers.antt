use Rattle.dh_redirects.proofs.FillLemmas.{trimmed}
use Rattle.dh_redirects.proofs.fill.after_slashes.Goals as goal

pub returns : goal.returns
returns c = trimmed c.args.text.now c.trim_start_matches.result.now c.trim_start_matches.ensures.matches
