pub mod Loaded
pub mod InUse
