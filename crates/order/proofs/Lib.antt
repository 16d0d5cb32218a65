pub mod Arranging
pub mod Turning
pub mod Standing
pub mod Running
pub mod Calls
