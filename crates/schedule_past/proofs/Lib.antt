pub mod Companions
pub mod Going
pub mod Numbers
pub mod Rooms
pub mod Sayings
pub mod Sizing
