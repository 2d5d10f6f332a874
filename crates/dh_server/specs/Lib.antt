pub mod Serving
pub mod Turns
pub mod Lives
pub mod Lines
pub mod Telling
