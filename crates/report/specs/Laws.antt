pub mod Alarmed
