pub mod Entered
pub mod Records
pub mod Said
pub mod Runs
