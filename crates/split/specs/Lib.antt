pub mod Last
pub mod Rows
pub mod Walks
pub mod Views
