pub mod Parts
pub mod Runs
pub mod Standings
pub mod WordsLeft
