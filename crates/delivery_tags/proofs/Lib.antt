pub mod SeedTags
pub mod Sixteen
pub mod TagTexts
