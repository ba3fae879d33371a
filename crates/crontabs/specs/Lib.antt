pub mod Crontabs
pub mod FieldTexts
pub mod Fields
pub mod Found
pub mod Minutes
pub mod Months
