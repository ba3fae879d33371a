pub mod Askings
pub mod Calls
pub mod CommandValues
pub mod Hearings
pub mod Sendings
pub mod SessionEnds
pub mod Talkings
pub mod Talks
