pub mod Keyed
pub mod Places
pub mod Calls
pub mod Whole
pub mod Example
pub mod Faults
pub mod Shapes
