pub mod Contents
pub mod Tokens
pub mod Trees
