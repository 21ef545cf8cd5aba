pub mod Booking
pub mod Prices
pub mod Why
pub mod Taken
pub mod Working
