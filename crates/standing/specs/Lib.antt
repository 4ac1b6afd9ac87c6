pub mod Standing
pub mod Looks
pub mod WholeStanding
pub mod Appending
pub mod Switching
pub mod RedoRoom
pub mod RoomRows
pub mod MediaComing
