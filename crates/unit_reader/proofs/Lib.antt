pub mod Led
pub mod Readings
pub mod Spelled
