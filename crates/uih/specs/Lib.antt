pub mod Fcs
pub mod Frames
pub mod Reading
