pub mod Takings
pub mod CommandLimits
