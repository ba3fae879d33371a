pub mod Acceptance
pub mod Lookups
pub mod StoreLeft
pub mod Tellings
pub mod Whereabouts
