pub mod Turns
pub mod Dates
pub mod Force
pub mod Efficacy
pub mod Bearing
pub mod Sizes
