pub mod Retire
pub mod Laws
pub mod Sample
