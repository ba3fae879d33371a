pub mod Deliveries
pub mod Books
pub mod Acts
pub mod BookRuns
