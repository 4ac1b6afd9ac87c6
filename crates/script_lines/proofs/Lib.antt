pub mod ReadingWindow
pub mod ReadingLines
pub mod ReadingSplits
pub mod ReadingSteps
pub mod ReadingLaws
