use Rattle.dh_classes.proofs.ReplyLemmas as lemmas
use Rattle.dh_classes.proofs.laws.class_replies.Goals as goal

pub returns : goal.returns
returns c = lemmas.class_replies
