pub mod CountTable
pub mod Gathering
