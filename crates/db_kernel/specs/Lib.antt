pub mod Kept
pub mod Damages
pub mod Reading
pub mod Opening
pub mod Starting
pub mod Taking
pub mod Scanning
