pub mod Origin
pub mod Written
pub mod Header
pub mod Words
pub mod Links
pub mod Taken
