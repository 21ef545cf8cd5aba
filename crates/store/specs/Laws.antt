-- Proof text: that the functions on bytes are those on the book.
pub mod Cells
pub mod Requests
pub mod Orders
pub mod Tables
pub mod Fields
pub mod Stored
pub mod Adds
pub mod Finds
pub mod Kept
pub mod Opens
pub mod Beside
