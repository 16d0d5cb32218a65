pub mod PassLaws
pub mod CallLaws
