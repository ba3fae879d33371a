mod Gathered
mod Heard
mod Linked
mod Pushings
mod Ready
mod Said
