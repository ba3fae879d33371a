pub mod Bodies
pub mod Entries
pub mod Envelopes
pub mod Relations
pub mod SealedTrees
pub mod Shown
pub mod ShownEntry
pub mod Steps
