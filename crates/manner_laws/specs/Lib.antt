pub mod Spots
pub mod Machine
pub mod Cursor
pub mod LayoutKeys
