pub mod Back
pub mod Width
pub mod Columns
