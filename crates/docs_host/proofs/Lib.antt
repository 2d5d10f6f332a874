pub mod Asking
pub mod Ending
pub mod Lines
pub mod Telling
pub mod Messages
pub mod Logging
