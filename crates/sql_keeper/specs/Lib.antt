pub mod Tables
pub mod Connections
pub mod Openers
pub mod SqlKeepers
pub mod Moving
