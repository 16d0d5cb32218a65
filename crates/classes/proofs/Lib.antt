pub mod Bits
pub mod Walking
pub mod Chains
pub mod Turns
pub mod First
