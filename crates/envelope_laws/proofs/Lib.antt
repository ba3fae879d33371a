pub mod Names
pub mod Tags
pub mod Written
pub mod Carried
pub mod MarksAlone
pub mod SealsSay
pub mod Entered
