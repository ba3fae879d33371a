pub mod Shows
pub mod Runs
