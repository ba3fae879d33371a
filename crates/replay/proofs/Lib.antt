pub mod Reported
pub mod Written
pub mod FirstBytes
pub mod Shaped
