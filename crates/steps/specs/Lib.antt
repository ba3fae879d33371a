pub mod Trips
pub mod Clients
pub mod Errands
pub mod Neutrals
pub mod Begins
pub mod Ends
pub mod Goings
