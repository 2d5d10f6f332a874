pub mod Escapes
pub mod Places
pub mod Targets
pub mod Forms
