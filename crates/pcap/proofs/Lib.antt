pub mod Laws
pub mod Headers
pub mod Reading
pub mod Examples
