pub mod Tops
pub mod Names
pub mod Puts
