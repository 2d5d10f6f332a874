pub mod BestLemmas
pub mod NameLemmas
