pub mod Devices
pub mod Quiet
pub mod Making
