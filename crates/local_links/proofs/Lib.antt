mod Fresh
mod Heard
mod Kept
mod Placed
mod Places
mod Went
