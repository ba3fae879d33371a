pub mod Basics
pub mod Cuts
pub mod NameFaults
pub mod Splits
