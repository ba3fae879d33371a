pub mod Names
pub mod Carried
pub mod Marks
pub mod Relations
pub mod Sealed
pub mod Laws
