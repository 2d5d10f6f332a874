pub mod ViewLemmas
pub mod PassLemmas
pub mod Shown
pub mod Kept
pub mod Leading
pub mod OrderedRows
pub mod RightLemmas
pub mod SeenPages
