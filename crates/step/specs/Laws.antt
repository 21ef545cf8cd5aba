pub mod Asked
pub mod Found
pub mod Linked
pub mod Steps
pub mod Taken
