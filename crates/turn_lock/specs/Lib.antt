pub mod Ladder
pub mod Passes
pub mod Turned
pub mod OneHistory
