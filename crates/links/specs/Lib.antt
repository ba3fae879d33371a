pub mod Causes
pub mod Counts
pub mod Ends
pub mod Memory
pub mod Views
