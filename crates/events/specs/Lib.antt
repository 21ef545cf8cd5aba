pub mod Events
pub mod Sample
pub mod Laws
