pub mod Lists
pub mod Digits
pub mod Number
pub mod Spelling
pub mod Rows
pub mod Held
pub mod Map
pub mod Counting
