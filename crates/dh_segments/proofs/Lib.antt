pub mod SegmentLemmas
