pub mod Rows
pub mod Forms
pub mod Spoken
pub mod Choices
