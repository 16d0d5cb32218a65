pub mod Places
pub mod Flaws
pub mod Pairs
