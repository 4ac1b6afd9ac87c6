pub mod ShownMaps
pub mod Saving
