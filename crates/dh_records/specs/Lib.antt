pub mod Codings
pub mod Lists
pub mod Typed
pub mod Constraints
pub mod Changes
