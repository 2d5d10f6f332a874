use Rattle.dh_derived.proofs.SoundLemmas.{sound_project}
use Rattle.dh_derived.proofs.laws.sound_projects.Goals as goal

pub returns : goal.returns
returns c = sound_project
