pub mod Notes
pub mod Spelled
