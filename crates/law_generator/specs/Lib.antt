pub mod Acts
pub mod Courses
pub mod Drawn
pub mod Draws
pub mod Named
