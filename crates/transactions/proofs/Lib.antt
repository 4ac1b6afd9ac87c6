pub mod Encoding
pub mod NetChanges
pub mod NetLists
pub mod Numbered
pub mod Machine
pub mod UnderLocks
