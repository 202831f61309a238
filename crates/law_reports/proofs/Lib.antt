pub mod CauseNames
pub mod DanglingTables
pub mod FoundEids
pub mod InOrder
pub mod ListedWids
pub mod Rows
pub mod SameMembers
pub mod WorksInTurn
