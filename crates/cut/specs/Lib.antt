pub mod Recording
pub mod Left
pub mod Honest
pub mod Claim
pub mod Sizes
