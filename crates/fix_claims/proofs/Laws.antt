pub mod Table
pub mod Claimed
