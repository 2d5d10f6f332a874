pub mod AnswerLemmas
pub mod MapLemmas
pub mod SeenLemmas
pub mod VeilLemmas
pub mod RetryLemmas
