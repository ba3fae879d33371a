mod Dots
mod Members
mod Places
mod Runs
