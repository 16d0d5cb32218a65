pub mod Chain
pub mod Table
