pub mod KeyLaws
pub mod SettingLaws
pub mod Lookups
pub mod PatternLaws
