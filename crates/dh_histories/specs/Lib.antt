pub mod Runs
pub mod Purge
pub mod CallsDone
pub mod Repeats
