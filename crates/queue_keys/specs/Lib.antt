pub mod Bindings
pub mod Layouts
pub mod Lookup
pub mod NameFaults
pub mod Names
pub mod Patterns
pub mod QueueKeys
pub mod Texts
