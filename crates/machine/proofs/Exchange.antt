pub mod Links
pub mod Frame
pub mod Handled
pub mod Commute
pub mod Both
pub mod Whole
pub mod Places
