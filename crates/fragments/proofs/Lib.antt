pub mod Chains
pub mod Linking
pub mod Walking
