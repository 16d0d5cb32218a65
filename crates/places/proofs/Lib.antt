pub mod PlacesLaws
pub mod StretchLaws
