pub mod ListLemmas
pub mod LookLemmas
