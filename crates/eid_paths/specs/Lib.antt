pub mod Elements
pub mod ElementCode
pub mod Nums
pub mod Numberings
pub mod Levels
pub mod Parts
pub mod EidFaults
pub mod Eids
