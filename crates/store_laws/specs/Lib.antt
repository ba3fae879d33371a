pub mod Laws
pub mod Rankings
pub mod Ranges
pub mod StoreLimits
