pub mod Import
pub mod Sizes
