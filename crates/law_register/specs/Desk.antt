pub mod Commands
pub mod History
pub mod Openings
pub mod States
