pub mod Utf8
pub mod Written
pub mod Many
pub mod Shown
