pub mod Bringing
pub mod Cycles
pub mod Declares
pub mod Named
pub mod Publishes
