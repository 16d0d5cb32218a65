pub mod Unescaping
pub mod Flaws
pub mod Places
pub mod Pairs
pub mod Filling
