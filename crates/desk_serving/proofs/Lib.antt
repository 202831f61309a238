pub mod Works
pub mod Together
pub mod Visits
pub mod OneByOne
