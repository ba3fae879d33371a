pub mod Plans
pub mod Tasks
