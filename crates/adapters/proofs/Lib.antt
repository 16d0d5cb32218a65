pub mod Renamed
pub mod Agreement
pub mod Recordings
pub mod Computed
pub mod Torn
pub mod Places
