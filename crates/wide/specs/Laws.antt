pub mod Words
pub mod Rounding
pub mod Price
