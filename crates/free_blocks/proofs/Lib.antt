pub mod Counts
mod Words
mod Packed
mod Bits
