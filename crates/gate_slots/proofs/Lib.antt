pub mod Bodies
pub mod Places
pub mod Phases
pub mod Forces
pub mod Chosen
pub mod Kept
