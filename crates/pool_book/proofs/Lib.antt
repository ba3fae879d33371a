pub mod Topped
pub mod Answering
pub mod Placing
