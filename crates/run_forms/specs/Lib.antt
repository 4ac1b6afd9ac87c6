pub mod Stampless
