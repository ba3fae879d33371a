pub mod Forms
pub mod Lines
pub mod LinesLeft
pub mod Numbers
pub mod Reason
pub mod Short
pub mod Words
