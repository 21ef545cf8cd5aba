pub mod Chain
pub mod Promise
pub mod Laws
