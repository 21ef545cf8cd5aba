pub mod Layout
pub mod Cells
pub mod Requests
pub mod Orders
pub mod Book
pub mod Finds
pub mod Laws
