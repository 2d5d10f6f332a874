pub mod Commands
pub mod Answers
pub mod Headline
pub mod Notes
pub use Rattle.dh_desk.specs.Desk
