pub mod Order
pub mod Steps
pub mod Examples
