pub mod Map
pub mod Tests
pub mod Ones
