pub mod Rightness
pub mod Renewals
pub mod Renewed
pub mod Consistent
