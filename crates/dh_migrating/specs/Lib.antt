pub mod OldPasses
pub mod Converting
