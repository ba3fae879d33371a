pub mod BeatFiles
pub mod Readings
