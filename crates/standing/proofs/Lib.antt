pub mod FirstBlocks
pub mod FirstMaps
pub mod WholeLaw
pub mod LookLaws
mod NamedDevices
mod LookRows
pub mod SlotBlocks
pub mod LookSwitched
pub mod SavepointStands
pub mod SwitchStands
pub mod LookAppended
pub mod AppendStands
pub mod AppendsStand
pub mod Untold
pub mod CostLaws
pub mod RedoRoom
pub mod RoomKept
pub mod RoomRows
pub mod Idle
pub mod StaleRows
pub mod MediaComing
