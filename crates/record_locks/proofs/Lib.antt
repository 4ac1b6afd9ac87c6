pub mod Answering
pub mod TablePlaces
pub mod SessionLocks
pub mod Found
pub mod Numbers
pub mod Agreement
