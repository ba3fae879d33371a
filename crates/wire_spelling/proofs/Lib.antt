pub mod Fitting
pub mod Commands
