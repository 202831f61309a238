pub mod Bearing
pub mod Knowing
pub mod Commands
pub mod Bytes
pub mod Tabling
pub mod Untold
