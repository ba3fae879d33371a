pub mod Numbers
pub mod Steps
pub mod Names
pub mod Limits
pub mod Kept
pub mod Ends
pub mod Pops
