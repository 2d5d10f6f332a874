use Rattle.dh_segments.proofs.SegmentLemmas as lemmas
use Rattle.dh_segments.proofs.laws.others_lead_nowhere.Goals as goal

pub returns : goal.returns
returns c = lemmas.others_lead_nowhere
