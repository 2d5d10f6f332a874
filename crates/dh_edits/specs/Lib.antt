pub mod RowEdits
