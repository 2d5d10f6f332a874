use Rattle.dh_classes.proofs.ClassLemmas as lemmas
use Rattle.dh_classes.proofs.laws.class_stays.Goals as goal

pub returns : goal.returns
returns c = lemmas.class_stays
