pub mod Lies
pub mod Lines
pub mod Refusals
