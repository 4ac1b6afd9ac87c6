pub mod Readers
pub mod LogKnown
pub mod LogLaws
pub mod Aims
pub mod AimLaws
pub mod SetGroups
