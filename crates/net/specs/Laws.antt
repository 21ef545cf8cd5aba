pub mod Pair
pub mod Line
pub mod Lines
pub mod Call
