pub mod Line
pub mod Pages
pub mod Kept
pub mod Sound
pub mod Call
pub mod Only
