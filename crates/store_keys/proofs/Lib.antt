pub mod Calm
pub mod Dues
pub mod Rooms
