pub mod Opening
pub mod Ends
pub mod Spreading
pub mod Listing
pub mod Filling
pub mod Examples
