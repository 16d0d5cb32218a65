pub mod ImportLaws
pub mod NumberLaws
