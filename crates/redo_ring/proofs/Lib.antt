pub mod Places
pub mod Log
pub mod Found
pub mod Ends
pub mod LaterBeginnings
