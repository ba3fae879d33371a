pub mod Endings
pub mod Makings
pub mod Mappings
pub mod Replays
pub mod Showings
pub mod Statuses
pub mod Words
