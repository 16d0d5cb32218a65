pub mod Showing
pub mod Passing
