pub mod Fields
pub mod Record
pub mod Answer
pub mod RoundTrip
pub mod Parts
pub mod Place
pub mod Laws
