pub mod Media
pub mod Writing
pub mod Calls
