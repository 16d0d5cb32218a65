pub mod Options
pub mod Calls
pub mod Passes
