pub mod AnsweredKey
pub mod Planned
pub mod Questions
pub mod Asking
pub mod Edits
pub mod Knowing
pub mod Plans
