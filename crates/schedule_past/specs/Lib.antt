pub mod Clients
pub mod Counted
pub mod Desks
pub mod Rooms
