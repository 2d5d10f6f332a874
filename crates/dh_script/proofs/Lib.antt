pub mod ReadingLemmas
pub mod RunLemmas
pub mod ScriptLemmas
pub mod WordLemmas
pub mod LineCallLemmas
pub mod Explained
pub mod Filled
