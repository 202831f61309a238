pub mod Asking
pub mod Entering
pub mod Input
pub mod Jobs
pub mod Reports
pub mod Runs
pub mod Stops
pub mod Views
