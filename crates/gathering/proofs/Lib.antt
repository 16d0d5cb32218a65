pub mod Gathering
pub mod CountTable
