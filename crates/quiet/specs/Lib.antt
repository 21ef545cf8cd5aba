pub mod Renamed
pub mod Part
