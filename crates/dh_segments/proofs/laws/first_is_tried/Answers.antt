use Rattle.dh_segments.proofs.SegmentLemmas as lemmas
use Rattle.dh_segments.proofs.laws.first_is_tried.Goals as goal

pub returns : goal.returns
returns c = lemmas.first_is_tried
