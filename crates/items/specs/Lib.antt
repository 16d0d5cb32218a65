pub mod Items
pub mod Reading
pub mod Walks
pub mod Checked
pub mod Entries
