use Rattle.dh_classes.proofs.ClassLemmas as lemmas
use Rattle.dh_classes.proofs.laws.class_decides.Goals as goal

pub returns : goal.returns
returns c = lemmas.class_decides
