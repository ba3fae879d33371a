pub mod Deeds
pub mod Faults
