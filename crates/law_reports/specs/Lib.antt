pub mod Correspondences
pub mod Dangling
pub mod Lifecycles
pub mod Tables
pub mod Unapplied
