pub mod WordLaws
pub mod WordWalks
pub mod WordCases
pub mod Counts
pub mod MatchReads
