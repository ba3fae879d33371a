pub mod Few
pub mod Limits
pub mod Numbers
pub mod Entries
pub mod Points
pub mod Told
