pub mod Law
pub mod Register
pub mod Answer
pub mod Provisions
pub mod Desk
