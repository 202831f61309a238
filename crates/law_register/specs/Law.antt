pub mod Bounds
pub mod Formats
pub mod Kinds
pub mod Same
pub mod Sizes
pub mod Sources
pub mod Spellable
pub mod Spelling
