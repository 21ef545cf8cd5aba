pub mod Marks
pub mod Promise
pub mod Laws
pub mod Sample
