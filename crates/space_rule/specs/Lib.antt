pub mod KnownCosts
pub mod Weighing
pub mod Spaces
pub mod Settling
