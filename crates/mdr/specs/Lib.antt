pub mod Sum
pub mod Escape
pub mod Frame
pub mod Told
pub mod Escaping
pub mod Wire
pub mod Glance
pub mod Types
