pub mod Draftable
pub mod ReadTexts
