pub mod Named
pub mod Live
pub mod Call
pub mod Same
pub mod Lists
