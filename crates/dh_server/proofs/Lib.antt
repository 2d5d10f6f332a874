pub mod Stepping
pub mod Joining
pub mod Calling
pub mod Living
pub mod Told
