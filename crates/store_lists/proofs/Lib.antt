pub mod Expiries
pub mod Pops
