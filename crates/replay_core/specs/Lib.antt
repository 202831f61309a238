pub mod Groups
pub mod Starts
pub mod Touching
