pub mod Sorting
pub mod Names
pub mod Comparing
pub mod Places
