pub mod Keepers
pub mod MapKeepers
pub mod JournalKeepers
