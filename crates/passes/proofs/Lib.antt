pub mod Counting
pub mod Going
pub mod Limits
pub mod Tagged
pub mod Telling
