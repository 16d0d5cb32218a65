pub mod OneLink
pub mod Alone
pub mod OfLink
pub mod Only
pub mod Merge
