pub mod Stretches
mod Numbers
mod Kept
mod Commits
mod GroupSteps
mod CommitLines
mod Dismissed
mod Loading
mod Opens
pub mod StateLines
mod Doing
mod Answering
mod RowLines
mod AnyLine
mod OtherLines
mod MediaLines
mod MediaShown
