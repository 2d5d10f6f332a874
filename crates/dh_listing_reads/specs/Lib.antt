pub mod RecordRows
pub mod Listings
pub mod Inventory
