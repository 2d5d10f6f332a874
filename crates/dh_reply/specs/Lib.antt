pub mod Lookup
pub mod Replies
pub mod System
pub mod Ports
