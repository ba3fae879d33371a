pub mod Stages
pub mod Cores
pub mod Goings
