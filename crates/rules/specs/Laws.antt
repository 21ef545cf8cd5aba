-- Proof text: the rules on bytes, as they are decided, that they are the rules of the book, and what a caller has.
pub mod Places
pub mod Beside
pub mod Here
pub mod Letters
pub mod Origin
pub mod Kinds
pub mod Spread
pub mod Suffix
pub mod Gathered
pub mod Things
pub mod Ruled
pub mod Keeps
