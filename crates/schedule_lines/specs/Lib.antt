pub mod Bindings
pub mod Simple
