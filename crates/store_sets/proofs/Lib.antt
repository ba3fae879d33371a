pub mod Ranks
pub mod Takings
