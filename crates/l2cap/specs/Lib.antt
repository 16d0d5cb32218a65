pub mod Pdus
pub mod PduTable
pub mod PduFrames
pub mod Rekeyed
pub mod Steps
pub mod Reading
