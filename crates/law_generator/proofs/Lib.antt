pub mod Readings
pub mod Sending
pub mod Spelled
pub mod Steps
