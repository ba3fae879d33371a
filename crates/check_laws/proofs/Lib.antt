pub mod Rows
pub mod Kept
pub mod Texts
pub mod Led
pub mod Once
