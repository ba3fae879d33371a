pub mod Endings
pub mod Processes
pub mod Publishes
pub mod Servings
pub mod Statuses
