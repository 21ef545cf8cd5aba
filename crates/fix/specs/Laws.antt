pub mod Plan
pub mod Planned
pub mod Putting
pub mod Whole
