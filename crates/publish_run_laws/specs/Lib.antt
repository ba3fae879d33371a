pub mod Parts
pub mod Published
