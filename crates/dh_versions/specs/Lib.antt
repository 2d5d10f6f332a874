pub mod Kinds
pub mod Release
pub mod Aliases
