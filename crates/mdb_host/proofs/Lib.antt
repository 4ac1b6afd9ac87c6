pub mod Moments
pub mod Reading
pub mod Picked
pub mod Slots
pub mod Bytes
pub mod Kept
pub mod Whole
