pub mod Booking
pub mod Laws
pub mod Why
