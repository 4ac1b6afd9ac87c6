pub mod Sorted
pub mod SortedMaps
pub mod Places
pub mod Tests
pub mod NextRow
pub mod Behind
