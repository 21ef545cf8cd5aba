-- Proof text: what stands in a buffer of places, how the calls end, and what is promised of them.
pub mod Calls
