pub mod Keys
pub mod Cached
