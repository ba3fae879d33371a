pub mod Lines
pub mod Recordable
pub mod Records
pub mod Rows
