pub mod Log
pub mod Holds
pub mod SetPoints
pub mod Savepoints
pub mod Passing
pub mod Sets
pub mod Redoes
