pub mod Runs
pub mod Left
pub mod Sound
pub mod Followed
pub mod Spelled
pub mod Loaded
pub mod OwnSteps
pub mod Named
