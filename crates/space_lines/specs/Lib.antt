pub mod Counted
pub mod Weighed
