pub mod Fitting
pub mod Kept
pub mod Needing
pub mod Placing
pub mod Reaching
pub mod Sources
pub mod Walking
