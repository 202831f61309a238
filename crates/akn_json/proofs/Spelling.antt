pub mod Passing
pub mod Nodes
pub mod Acts
pub mod Modifications
pub mod Bytes
