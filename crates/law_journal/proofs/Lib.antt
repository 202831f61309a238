mod Windows
pub mod Moments
mod Records
mod Framed
mod Scans
mod Crash
mod Appending
pub mod Lists
pub mod Resting
mod Alone
mod MemorySteps
mod PartlyDone
mod Painting
mod Histories
