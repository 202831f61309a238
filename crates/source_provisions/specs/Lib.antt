pub mod Held
pub mod Once
