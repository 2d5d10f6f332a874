pub mod ApplyLemmas
pub mod FoundLemmas
pub mod TextLemmas
