pub mod Pages
pub mod Groups
pub mod Saved
pub mod Infos
pub mod Backed
