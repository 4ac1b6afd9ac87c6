mod Telling
pub mod Untied
pub mod Fitting
mod Closed
mod Restarting
pub mod Volumes
pub mod Results
pub mod Numbers
mod Starts
pub mod Reaching
mod OpenLines
mod OffLines
mod NextRows
mod WholeRecords
mod FoundRecords
mod Opens
