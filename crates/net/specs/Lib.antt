pub mod Net
pub mod Promise
pub mod Laws
pub mod Sample
