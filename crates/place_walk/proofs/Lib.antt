pub mod Acceptances
pub mod Gathers
pub mod Numbers
pub mod PutBack
pub mod Starts
pub mod Told
pub mod Walks
pub mod Weighs
