pub mod Digits
pub mod Names
pub mod Parts
pub mod Told
pub mod Stamps
