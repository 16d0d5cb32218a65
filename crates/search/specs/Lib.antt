pub mod Seek
pub mod Steps
