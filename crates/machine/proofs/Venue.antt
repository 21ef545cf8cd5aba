pub mod Frame
pub mod Quiet
pub mod Sets
pub mod Handled
pub mod Books
