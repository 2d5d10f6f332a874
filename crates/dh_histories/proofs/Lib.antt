pub mod MapEdits
pub mod ProjectEdits
pub mod Mirrors
pub mod Sight
pub mod Purging
pub mod CallLemmas
pub mod RepeatLemmas
