pub mod Lines
pub mod Heads
pub mod Subjects
pub mod Entries
pub mod Logs
