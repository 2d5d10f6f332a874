pub mod Remembered
pub mod Right
pub mod Stored
pub mod View
