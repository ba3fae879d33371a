pub mod CivilDays
pub mod CivilTimes
pub mod Laws
pub mod MomentTexts
pub mod Shown
