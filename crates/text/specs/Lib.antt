pub mod Stored
pub mod Numbered
pub mod Laws
