pub mod Order
pub mod Copied
pub mod Turns
