pub mod Asked
pub mod Begun
pub mod CommandsFit
pub mod Contents
pub mod Mapped
pub mod Refused
pub mod SpelledSome
pub mod Taken
