-- Proof text: a side of a book, what its orders and requests name, their rows, the words, and what is asked.
pub mod Side
pub mod Moved
pub mod Rows
pub mod Opens
pub mod Asked
