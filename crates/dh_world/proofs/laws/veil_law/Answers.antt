use Rattle.dh_world.proofs.VeilLemmas as veiling
use Rattle.dh_world.proofs.laws.veil_law.Goals as goal

pub returns : goal.returns
returns c = veiling.veil_law
