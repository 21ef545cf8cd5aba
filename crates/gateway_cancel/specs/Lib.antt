pub mod Laws
pub mod Tries
