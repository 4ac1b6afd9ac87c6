pub mod Along
pub mod Progress
pub mod Speaking
pub mod Scans
pub mod Calls
pub mod Again
