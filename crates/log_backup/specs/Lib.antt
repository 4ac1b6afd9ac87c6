pub mod Packing
pub mod Saving
pub mod Backing
