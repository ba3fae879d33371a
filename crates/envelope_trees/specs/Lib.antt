pub mod Marks
pub mod Members
pub mod Reading
pub mod Sorted
