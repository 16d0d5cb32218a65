pub mod Formats
pub mod Headers
pub mod Walk
pub mod ReaderLaws
pub mod Listings
pub mod Finding
