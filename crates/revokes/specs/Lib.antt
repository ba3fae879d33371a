pub mod Kept
pub mod Revokes
