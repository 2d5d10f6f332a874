use Rattle.dh_bodies.proofs.NameLemmas as names
use Rattle.dh_bodies.proofs.laws.last_value_counts.Goals as goal

pub returns : goal.returns
returns c = names.last_value_counts
