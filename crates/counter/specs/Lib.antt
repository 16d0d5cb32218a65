pub mod Counter
pub mod Examples
