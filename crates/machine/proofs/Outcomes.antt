pub mod Set
pub mod After
