pub mod ClassLemmas
pub mod ReplyLemmas
