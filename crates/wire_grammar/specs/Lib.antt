pub mod Limits
pub mod Spells
pub mod Reads
pub mod Texts
pub mod Faults
pub mod Fits
pub mod Streams
