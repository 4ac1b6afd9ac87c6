pub mod Ring
pub mod Calls
pub mod Reading
pub mod Opening
pub mod Ends
pub mod Writes
