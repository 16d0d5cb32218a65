pub mod Twins
pub mod Escapes
