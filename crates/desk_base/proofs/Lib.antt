pub mod Numerals
pub mod Calendar
pub mod Writes
pub mod Pieces
pub mod DayLaws
