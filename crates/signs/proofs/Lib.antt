pub mod Counting
pub mod Places
pub mod PlaceOrder
pub mod Acl
pub mod Examples
