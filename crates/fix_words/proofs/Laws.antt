pub mod Kinds
pub mod Again
pub mod Trip
pub mod Taken
pub mod Made
pub mod Carried
