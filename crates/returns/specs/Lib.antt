pub mod Keys
pub mod Numbers
pub mod Spots
pub mod Returns
