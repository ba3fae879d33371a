pub mod TaskTrees
pub mod Seals
pub mod Program
pub mod Companions
