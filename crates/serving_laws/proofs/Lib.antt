pub mod Attendance
pub mod Histories
pub mod Replies
pub mod Wholes
