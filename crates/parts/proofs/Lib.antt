pub mod Retired
pub mod Archived
