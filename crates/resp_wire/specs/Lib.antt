pub mod Steps
pub mod Meanings
pub mod Stands
pub mod Moves
