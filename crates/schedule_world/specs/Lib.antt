pub mod AskableLines
pub mod Begins
pub mod Books
pub mod Desks
pub mod Rests
pub mod Runs
pub mod Shelves
pub mod Told
