-- Proof text: what a lookup gives, an OrigClOrdID's link, sums in the bytes, and as the code makes them, and what a change moves.
pub mod Found
pub mod Named
pub mod Links
pub mod Sums
pub mod Left
pub mod Moved
