pub mod Bringing
pub mod Latest
pub mod Making
pub mod Stale
pub mod Staying
pub mod WhenEnacted
