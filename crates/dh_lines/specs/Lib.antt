pub mod App
pub mod Forms
pub mod Lines
