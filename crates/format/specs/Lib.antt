pub mod Codes
pub mod Format
pub mod Places
pub mod Refusal
pub mod Facts
pub mod Wire
pub mod Laws
