pub mod Cutting
pub mod Reading
pub mod Printing
pub mod Spelling
