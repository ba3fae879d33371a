pub mod Listed
pub mod Served
pub mod Played
pub mod Kept
pub mod EachHistory
