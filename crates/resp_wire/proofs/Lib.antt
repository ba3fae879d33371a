pub mod Means
pub mod Spans
pub mod Standing
