pub mod Serving
pub mod Awaiting
pub mod Media
