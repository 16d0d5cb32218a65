pub mod Finding
pub mod AsImport
