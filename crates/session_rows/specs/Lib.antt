pub mod Replies
pub mod Scan
pub mod Serving
