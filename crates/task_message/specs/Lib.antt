pub mod Again
pub mod Drafted
pub mod Put
pub mod Reading
pub mod Shown
pub mod Tasks
