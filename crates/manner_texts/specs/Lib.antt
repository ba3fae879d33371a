pub mod Heads
pub mod Ways
