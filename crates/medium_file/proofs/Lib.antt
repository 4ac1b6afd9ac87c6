pub mod Places
pub mod Headers
pub mod Writers
pub mod Sealing
pub mod Sealed
