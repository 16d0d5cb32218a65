pub mod Linking
pub mod Backs
pub mod Lasts
pub mod Tables
pub mod Gathers
pub mod Steps
pub mod Aheads
pub mod Fronts
