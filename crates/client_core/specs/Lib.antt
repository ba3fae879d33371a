pub mod Asides
pub mod Lefts
pub mod Works
pub mod Begun
pub mod Laws
