pub mod Searching
pub mod Examples
