pub mod Moments
pub mod Several
pub mod Walks
pub mod Found
pub mod OverJournals
