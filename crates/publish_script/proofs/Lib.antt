mod Begun
mod Checked
pub mod Numbered
mod Sealing
mod Tagged
mod Ways
