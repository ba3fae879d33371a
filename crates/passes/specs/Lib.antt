pub mod Counts
pub mod Passes
pub mod Releases
pub mod Told
