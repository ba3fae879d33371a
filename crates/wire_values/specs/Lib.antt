pub mod Kept
pub mod Layer
pub mod Order
