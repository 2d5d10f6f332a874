pub mod LineLemmas
pub mod FormLines
pub mod PatternLemmas
