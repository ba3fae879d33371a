mod Amid
mod Goings
mod Linked
mod Sayings
