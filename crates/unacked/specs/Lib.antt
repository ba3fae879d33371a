pub mod Queues
pub mod Steps
pub mod Ends
pub mod Pops
