pub mod Opening
pub mod AsImport
