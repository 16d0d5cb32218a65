pub mod Names
pub mod Sort
pub mod Chains
pub mod Steps
