pub mod Calls
pub mod Leaves
pub mod Stands
