pub mod Places
pub mod Written
pub mod Stands
pub mod Sound
pub mod Names
pub mod Last
