pub mod PlainAnswers
pub mod StoreRuns
