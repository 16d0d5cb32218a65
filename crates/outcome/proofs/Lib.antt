pub mod Import
pub mod Examples
pub mod Account
pub mod Sizes
