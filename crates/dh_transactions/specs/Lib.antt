pub mod Steps
pub mod Opening
pub mod Editing
pub mod Crashes
