pub mod Net
pub mod Locked
pub mod Ongoing
pub mod Calls
pub mod Faults
pub mod Standing
