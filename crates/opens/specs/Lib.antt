pub mod Opens
pub mod Laws
