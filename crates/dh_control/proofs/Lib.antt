pub mod Codes
pub mod Cuts
pub mod Sending
pub mod Whole
pub mod Words
pub mod Means
