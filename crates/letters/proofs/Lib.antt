pub mod Computed
pub mod Places
pub mod Joining
pub mod Stems
