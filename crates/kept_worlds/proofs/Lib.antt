pub mod Calls
pub mod MapPages
pub mod Plain
pub mod Beside
pub mod Appending
pub mod Saving
pub mod Setting
