pub mod AnswerLemmas
pub mod FillLemmas
