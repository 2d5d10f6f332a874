pub mod ListingTexts
pub mod Whole
