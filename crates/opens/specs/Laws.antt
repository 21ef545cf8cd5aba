-- Proof text: the call as the code comes to it.
pub mod Calls
