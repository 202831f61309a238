pub mod Ahead
pub mod Orders
