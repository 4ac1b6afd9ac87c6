pub mod UsedEntries
pub mod Apart
pub mod Shown
pub mod Saving
pub mod Differ
pub mod Unbroken
