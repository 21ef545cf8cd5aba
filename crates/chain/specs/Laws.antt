-- Proof text: the walk by links, entries, and the promises.
pub mod Walk
pub mod Entries
pub mod Sound
pub mod Called
pub mod Call
