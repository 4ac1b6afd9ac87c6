pub mod Opens
pub mod Sums
pub mod Noting
pub mod Settling
pub mod Starting
