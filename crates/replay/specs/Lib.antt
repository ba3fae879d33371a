pub mod Kinds
pub mod Openings
