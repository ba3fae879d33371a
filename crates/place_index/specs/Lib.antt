pub mod Indexed
pub mod Kept
pub mod Places
pub mod Standing
pub mod Stored
pub mod Tallies
