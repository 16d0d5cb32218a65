pub mod Formats
pub mod Headers
pub mod Walk
pub mod Reader
pub mod Listing
pub mod Listings
pub mod Finding
