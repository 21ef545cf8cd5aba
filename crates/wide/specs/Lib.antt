pub mod Wide
pub mod Facts
pub mod Division
pub mod Laws
