mod Passed
mod Spelled
mod Deep
