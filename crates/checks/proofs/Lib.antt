pub mod Laws
pub mod Recordings
pub mod Computed
