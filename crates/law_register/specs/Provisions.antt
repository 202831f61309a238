pub mod Carrying
pub mod Costs
pub mod Depending
pub mod Line
pub mod Looking
pub mod Spans
pub mod Touching
pub mod Trees
