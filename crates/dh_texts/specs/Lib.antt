pub mod Bytes
pub mod Storages
pub mod Texts
pub mod SlugOfName
pub mod Numbers
