pub mod KeyLemmas
pub mod CachedLemmas
