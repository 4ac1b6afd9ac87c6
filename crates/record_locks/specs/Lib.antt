pub mod LockedPlaces
pub mod LockedTables
pub mod Holding
pub mod Holders
pub mod Agreeing
