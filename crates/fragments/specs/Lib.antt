pub mod Links
pub mod Bytes
pub mod Reading
