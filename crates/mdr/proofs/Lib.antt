pub mod Glance
pub mod Escaping
pub mod Examples
pub mod Wire
pub mod RoundTrip
pub mod Types
