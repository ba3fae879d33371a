pub mod KeptTrees
pub mod Removed
pub mod Texts
pub mod WholeAgain
