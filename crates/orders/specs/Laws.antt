pub mod Parts
pub mod Maps
pub mod Choices
pub mod Counts
pub mod Alarms
pub mod Taken
