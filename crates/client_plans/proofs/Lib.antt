pub mod Drafted
pub mod Named
pub mod Preparing
