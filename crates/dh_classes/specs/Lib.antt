pub mod Classes
pub mod Replies
