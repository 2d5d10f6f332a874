pub mod Desk
pub mod DeskRuns
pub mod DeskLists
