pub mod Within
pub mod Names
pub mod Told
