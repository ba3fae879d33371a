pub mod Companions
pub mod Laws
