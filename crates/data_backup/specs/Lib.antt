pub mod Frozen
pub mod Copying
