pub mod SlugLemmas
pub mod NumberLemmas
