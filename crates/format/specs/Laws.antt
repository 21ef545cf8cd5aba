pub mod Codes
pub mod Format
pub mod Places
pub mod Seen
pub mod Trip
