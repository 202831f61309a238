pub mod Work
pub mod Gates
