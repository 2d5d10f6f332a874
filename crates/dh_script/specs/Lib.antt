pub mod Outcomes
pub mod Reading
pub mod Reasons
pub mod Running
pub mod Script
pub mod LineCalls
pub mod Explaining
pub mod Faults
