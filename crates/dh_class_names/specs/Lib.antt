pub mod Rows
pub mod Highest
pub mod ClassNames
