pub mod Stampless
pub mod Differing
pub mod Standing
pub mod Formed
pub mod Areas
pub mod PageCounts
