pub mod Cuts
pub mod Listed
pub mod Spelled
