pub mod Samples
pub mod Places
