pub mod Maps
pub mod Tree
pub mod Own
pub mod Loads
