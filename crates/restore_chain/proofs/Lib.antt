pub mod Ends
pub mod Steps
pub mod Media
pub mod Bare
