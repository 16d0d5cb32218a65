pub mod Summing
pub mod Choosing
pub mod Listing
pub mod Streams
