-- Proof text: texts in place, by words and by bytes, digits and numbered names.
pub mod ByWords
pub mod InPlace
pub mod Numbered
pub mod Pushed
pub mod Names
