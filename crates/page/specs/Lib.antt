pub mod Page
pub mod Promise
pub mod Laws
pub mod Sample
