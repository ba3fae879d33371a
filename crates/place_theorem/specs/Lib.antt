pub mod Begun
pub mod Bindings
