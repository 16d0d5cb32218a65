pub mod Claims
pub mod Same
pub mod Examples
pub mod Spelled
pub mod Sizes
