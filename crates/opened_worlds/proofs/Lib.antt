mod NoUndo
pub mod Ascending
pub mod Live
mod Plain
mod OpenedMap
mod OpenedRows
mod Spare
mod Stamped
mod Redoing
mod Service
