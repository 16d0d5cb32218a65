pub mod Paths
pub mod Index
pub mod Seats
pub mod Turns
