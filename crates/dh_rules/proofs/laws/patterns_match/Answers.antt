use Rattle.dh_rules.proofs.FoundLemmas.{is_match-law}
use Rattle.dh_rules.proofs.laws.patterns_match.Goals as goal

pub returns : goal.returns
returns c = is_match-law
