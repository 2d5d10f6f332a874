pub mod ByKey
pub mod Filling
pub mod Finding
pub mod Renewing
pub mod Standing
