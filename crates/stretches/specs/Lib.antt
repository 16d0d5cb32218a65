pub mod Open
pub mod Filled
pub mod Listing
