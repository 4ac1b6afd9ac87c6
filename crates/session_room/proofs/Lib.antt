pub mod Sorted
pub mod Changing
pub mod SessionRoom
