pub mod Imports
pub mod Numbers
