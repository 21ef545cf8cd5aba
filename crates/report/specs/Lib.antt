pub mod Laws
pub mod Rejection
