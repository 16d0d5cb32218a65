pub mod Showing
pub mod Begun
pub mod Counting
pub mod Following
pub mod Walking
