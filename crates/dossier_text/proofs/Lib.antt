pub mod Reading
pub mod Statuses
pub mod Telling
pub mod WellSpelled
pub mod Wholes
