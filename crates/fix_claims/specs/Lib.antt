pub mod Reading
pub mod Call
pub mod Claims
pub mod Sample
pub mod Laws
