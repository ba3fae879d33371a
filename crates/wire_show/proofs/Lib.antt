pub mod Showings
pub mod Sources
pub mod Endings
pub mod Streams
