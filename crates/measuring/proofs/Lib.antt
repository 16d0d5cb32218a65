pub mod Counts
pub mod Accounts
pub mod Steps
pub mod Counting
