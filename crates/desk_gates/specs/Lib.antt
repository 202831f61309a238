pub mod Tallies
pub mod MemoryGates
