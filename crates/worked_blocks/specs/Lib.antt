pub mod Toy
pub mod Lists
