pub mod Tables
pub mod ColumnLemmas
pub mod Calling
pub mod InTurn
pub mod Making
