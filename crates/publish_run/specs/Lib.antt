pub mod Blocks
pub mod Publishings
pub mod PublishRuns
pub mod Saids
