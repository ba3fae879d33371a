pub mod Asked
pub mod Endings
pub mod Fronts
pub mod Makings
pub mod Showings
pub mod Statuses
