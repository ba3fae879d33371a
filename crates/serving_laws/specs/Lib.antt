pub mod ServedHistories
pub mod WholeSessions
